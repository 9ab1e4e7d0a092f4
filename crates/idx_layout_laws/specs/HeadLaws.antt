-- Laws: the head of every page, its attribute, count and links, and the file's header, after each store that the rules of insertion make. Cited by the
-- laws of insertion. Assumes nothing.
use Rattle.std.specs.Prelude.{◌≡◌, true, cond, ◌&&◌, List, ◌⊎◌, ℕ, suc, ◌+◌, ◌^◌, ◌≤◌, ◌<◌, take, drop, ltb, eqb}
use Rattle.std.proofs.Math.Path.{refl, ap}
use Rattle.std.proofs.Common.{sym, ◌∙◌, inl, inr, arith, length-take, length-drop}
use Rattle.std.proofs.Math.Bool.{not}
use Rattle.std.proofs.Math.ListN.{length}
use borrow.Author.Tests.{ltb-true, eqb-true, eqb-false, ne_eqb}
use Rattle.basis.specs.Lists.{All}
use Rattle.basis.specs.Tests.{either, contra, both}
use Rattle.octets.specs.Bytes.{le16, le32, to_le16, to_le32}
use Rattle.octets.specs.Store.{put, window}
use Rattle.octets.specs.Order.{bytes_le}
use Rattle.octets.specs.StoreLaws.{length-put, window-before, window-after}
use Rattle.octets.specs.NumberLaws.{length-to_le16, length-to_le32, le16-put, le32-put, le16-same, le32-same}
use Rattle.tree.specs.Lists.{half}
use Rattle.idx_page.specs.Header.{page_size, is_page}
use Rattle.idx_page.specs.Page.{attribute_at, count_at, left_at, right_at, entries_start, capacity, entry_offset}
use Rattle.idx_page.specs.PageLaws.{entry-inside, entry-low, capacity-small}
use Rattle.idx_page.specs.HeaderLaws.{is-page}
use Rattle.idx_page.specs.Reading.{Item}
use Rattle.idx_page.proofs.ReadingLaws.{attribute-same, count_same, left-same, right-same}
use Rattle.idx_leaf.specs.Leaf.{items_in, item_of}
use Rattle.idx_layout.specs.Layout.{area, with_entries, new_page, without_root, link_beyond, split_page}
use Rattle.idx_entries.specs.Entries.{raised}
use Rattle.idx_leaf.specs.ItemLaws.{Fit}
use Rattle.idx_layout_laws.specs.EntryLaws.{page-of, window-other, length-area, new-stores, length_with, length-beyond, items-few, halves-fit}

-- the head of the page at z
pub record Head (b : List ℕ) (z attribute count left right : ℕ) : Type 0 where
  pub attribute_is : attribute_at b z ≡ attribute
  pub count_is : count_at b z ≡ count
  pub left_is : left_at b z ≡ left
  pub right_is : right_at b z ≡ right

-- the head of the page at z is the same in b' as in b
abbrev pub SameHead : List ℕ → List ℕ → ℕ → Type 0
SameHead b b' z = Head b' z (attribute_at b z) (count_at b z) (left_at b z) (right_at b z)

module _ (b : List ℕ) (x : ℕ) (tx : is_page (length b) x ≡ true) (z : ℕ) (tz : is_page (length b) z ≡ true) where
  -- a store into the page at x keeps bytes of the page at z, if z is another page or the bytes stand before or after the store
  pub kept : (at : ℕ) (ys : List ℕ) (i m : ℕ) → x ≤ at → at + length ys ≤ x + page_size → z ≤ i → i + m ≤ z + page_size
      → (z ≡ x → (i + m ≤ at) ⊎ (at + length ys ≤ i)) → window (put b at ys) i m ≡ window b i m
  kept at ys i m l1 l2 l3 l4 apart = either (eqb z x)
      (λ e. go (apart (eqb-true z x e)))
      (λ e. window-other b x at ys (is-page (length b) x tx).whole l1 l2 z (is-page (length b) z tz).whole (eqb-false z x e) i m l3 l4)
    where
      go : (i + m ≤ at) ⊎ (at + length ys ≤ i) → window (put b at ys) i m ≡ window b i m
      go (inl l) = window-before b at ys i m l
      go (inr l) = window-after b at ys i m l

  -- a number stored in the page at x, read in the same place of the page at z
  stored16 : (at i v : ℕ) → v < 2 ^ 16 → x ≤ at → at + 2 ≤ x + page_size → i + x ≡ at + z → le16 (put b at (to_le16 v)) i ≡ cond (eqb z x) v (le16 b i)
  stored16 at i v h l m e =
      let n = length-to_le16 v in
      either (eqb z x)
      (λ u. let same : i ≡ at = omega (arith, eqb-true z x u) in
      rw (u, same) (le16-put b at v h (omega (arith, (is-page (length b) x tx).high))))
      (λ u. rw u (le16-same (put b at (to_le16 v)) b i (kept at (to_le16 v) i 2 l (omega arith) (omega arith) (omega arith) (λ q. absurd (eqb-false z x u q)))))

  stored32 : (at i v : ℕ) → v < 2 ^ 32 → x ≤ at → at + 4 ≤ x + page_size → i + x ≡ at + z → le32 (put b at (to_le32 v)) i ≡ cond (eqb z x) v (le32 b i)
  stored32 at i v h l m e =
      let n = length-to_le32 v in
      either (eqb z x)
      (λ u. let same : i ≡ at = omega (arith, eqb-true z x u) in
      rw (u, same) (le32-put b at v h (omega (arith, (is-page (length b) x tx).high))))
      (λ u. rw u (le32-same (put b at (to_le32 v)) b i (kept at (to_le32 v) i 4 l (omega arith) (omega arith) (omega arith) (λ q. absurd (eqb-false z x u q)))))

  -- a store into the page's entries, its count, its attribute, its left link, its right link
  put_entries : (at : ℕ) (ys : List ℕ) → x + entries_start ≤ at → at + length ys ≤ x + page_size → SameHead b (put b at ys) z
  put_entries at ys l m =
      let free : (i n : ℕ) → z ≤ i → i + n ≤ z + entries_start → window (put b at ys) i n ≡ window b i n =
      λ i n u v. kept at ys i n (omega arith) m u (omega arith) (λ e. inl (omega arith)) in
      record {
        attribute_is = le16-same (put b at ys) b z (free z 2 (omega arith) (omega arith));
        count_is = le16-same (put b at ys) b (z + 2) (free (z + 2) 2 (omega arith) (omega arith));
        left_is = le32-same (put b at ys) b (z + 4) (free (z + 4) 4 (omega arith) (omega arith));
        right_is = le32-same (put b at ys) b (z + 8) (free (z + 8) 4 (omega arith) (omega arith));
      }

  put_count : (c : ℕ) → c < 2 ^ 16 → Head (put b (x + 2) (to_le16 c)) z (attribute_at b z) (cond (eqb z x) c (count_at b z)) (left_at b z) (right_at b z)
  put_count c h =
      let n = length-to_le16 c in
      let c1 = put b (x + 2) (to_le16 c) in
      record {
        attribute_is = le16-same c1 b z (kept (x + 2) (to_le16 c) z 2 (omega arith) (omega arith) (omega arith) (omega arith) (λ e. inl (omega arith)));
        count_is = stored16 (x + 2) (z + 2) c h (omega arith) (omega arith) (omega arith);
        left_is = le32-same c1 b (z + 4) (kept (x + 2) (to_le16 c) (z + 4) 4 (omega arith) (omega arith) (omega arith) (omega arith) (λ e. inr (omega arith)));
        right_is = le32-same c1 b (z + 8) (kept (x + 2) (to_le16 c) (z + 8) 4 (omega arith) (omega arith) (omega arith) (omega arith) (λ e. inr (omega arith)));
      }

  put-attribute : (a : ℕ) → a < 2 ^ 16 → Head (put b x (to_le16 a)) z (cond (eqb z x) a (attribute_at b z)) (count_at b z) (left_at b z) (right_at b z)
  put-attribute a h =
      let n = length-to_le16 a in
      let c1 = put b x (to_le16 a) in
      let free : (i m : ℕ) → z + 2 ≤ i → i + m ≤ z + entries_start → window c1 i m ≡ window b i m =
      λ i m u v. kept x (to_le16 a) i m (omega arith) (omega arith) (omega arith) (omega arith) (λ e. inr (omega arith)) in
      record {
        attribute_is = stored16 x z a h (omega arith) (omega arith) (omega arith);
        count_is = le16-same c1 b (z + 2) (free (z + 2) 2 (omega arith) (omega arith));
        left_is = le32-same c1 b (z + 4) (free (z + 4) 4 (omega arith) (omega arith));
        right_is = le32-same c1 b (z + 8) (free (z + 8) 4 (omega arith) (omega arith));
      }

  put-left : (l : ℕ) → l < 2 ^ 32 → Head (put b (x + 4) (to_le32 l)) z (attribute_at b z) (count_at b z) (cond (eqb z x) l (left_at b z)) (right_at b z)
  put-left l h =
      let n = length-to_le32 l in
      let c1 = put b (x + 4) (to_le32 l) in
      let free : (i m : ℕ) → z ≤ i → i + m ≤ z + 4 → window c1 i m ≡ window b i m =
      λ i m u v. kept (x + 4) (to_le32 l) i m (omega arith) (omega arith) (omega arith) (omega arith) (λ e. inl (omega arith)) in
      record {
        attribute_is = le16-same c1 b z (free z 2 (omega arith) (omega arith));
        count_is = le16-same c1 b (z + 2) (free (z + 2) 2 (omega arith) (omega arith));
        left_is = stored32 (x + 4) (z + 4) l h (omega arith) (omega arith) (omega arith);
        right_is = le32-same c1 b (z + 8) (kept (x + 4) (to_le32 l) (z + 8) 4 (omega arith) (omega arith) (omega arith) (omega arith) (λ e. inr (omega arith)));
      }

  pub put_right : (r : ℕ) → r < 2 ^ 32 → Head (put b (x + 8) (to_le32 r)) z (attribute_at b z) (count_at b z) (left_at b z) (cond (eqb z x) r (right_at b z))
  put_right r h =
      let n = length-to_le32 r in
      let c1 = put b (x + 8) (to_le32 r) in
      let free : (i m : ℕ) → z ≤ i → i + m ≤ z + 8 → window c1 i m ≡ window b i m =
      λ i m u v. kept (x + 8) (to_le32 r) i m (omega arith) (omega arith) (omega arith) (omega arith) (λ e. inl (omega arith)) in
      record {
        attribute_is = le16-same c1 b z (free z 2 (omega arith) (omega arith));
        count_is = le16-same c1 b (z + 2) (free (z + 2) 2 (omega arith) (omega arith));
        left_is = le32-same c1 b (z + 4) (free (z + 4) 4 (omega arith) (omega arith));
        right_is = stored32 (x + 8) (z + 8) r h (omega arith) (omega arith) (omega arith);
      }

-- a store behind the file's header keeps the header
abbrev pub SameHeader : List ℕ → List ℕ → Type 0
SameHeader b b' = window b' 0 page_size ≡ window b 0 page_size

pub put-outside : (b : List ℕ) (at : ℕ) (ys : List ℕ) → page_size ≤ at → SameHeader b (put b at ys)
put-outside b at ys h = window-before b at ys 0 page_size (omega arith)

-- a store into the file's header keeps the head of every page
pub put-header : (b : List ℕ) (at : ℕ) (ys : List ℕ) → at + length ys ≤ page_size → (z : ℕ) → is_page (length b) z ≡ true → SameHead b (put b at ys) z
put-header b at ys h z t =
    let g = (is-page (length b) z t).low in
    let b1 = put b at ys in
    let same : window b1 z page_size ≡ window b z page_size = window-after b at ys z page_size (omega arith) in
    record { attribute_is = attribute-same b1 b z same; count_is = count_same b1 b z same; left_is = left-same b1 b z same; right_is = right-same b1 b z same }

module _ (k : ℕ) where
  -- a page that gets other entries
  module _ (b : List ℕ) (p : ℕ) (es : List Item) (tp : is_page (length b) p ≡ true) (f : All (Fit k) es) (few : length es ≤ capacity k) where
    pub with_head : (z : ℕ) → is_page (length b) z ≡ true → Head (with_entries b p es) z (attribute_at b z) (cond (eqb z p) (length es) (count_at b z))
        (left_at b z) (right_at b z)
    unfolding with_entries
    with_head z tz =
        let b1 = put b (p + 2) (to_le16 (length es)) in
        let l1 : length b1 ≡ length b = length-put b (p + 2) (to_le16 (length es)) in
        let s1 = put_count b p tp z tz (length es) (omega (arith, capacity-small k)) in
        let s2 = put_entries b1 p (page-of p l1 tp) z (page-of z l1 tz) (p + entries_start) (area es) (omega arith) (omega (arith, length-area k es f few)) in
        record {
          attribute_is = s2.attribute_is ∙ s1.attribute_is;
          count_is = s2.count_is ∙ s1.count_is;
          left_is = s2.left_is ∙ s1.left_is;
          right_is = s2.right_is ∙ s1.right_is;
        }

    pub with_header : SameHeader b (with_entries b p es)
    unfolding with_entries
    with_header =
        let g = (is-page (length b) p tp).low in
        put-outside (put b (p + 2) (to_le16 (length es))) (p + entries_start) (area es) (omega arith)
        ∙ put-outside b (p + 2) (to_le16 (length es)) (omega arith)

  -- a page whose entry i has its key raised
  module _ (b key : List ℕ) (p i : ℕ) (tp : is_page (length b) p ≡ true) (lk : length key ≡ k) where
    pub raised_as : (P : List ℕ → Type 0) → P b → ((at : ℕ) → p + entries_start ≤ at → at + length key ≤ p + page_size → P (put b at key))
        → P (raised k b key p i)
    unfolding raised
    raised_as P same stored =
        let es = items_in k b p in
        let lower = not (bytes_le key (item_of i es).0) in
        either (ltb i (length es) && lower)
        (λ e. let inside : i < length es = ltb-true i (length es) (both (ltb i (length es)) lower e).0 in
        rw e (stored (entry_offset k p i) (entry-low k p i) (omega (arith, entry-inside k p i (omega (arith, items-few k b p))))))
        (λ e. rw e same)

    pub raised-head : (z : ℕ) → is_page (length b) z ≡ true → SameHead b (raised k b key p i) z
    raised-head z tz = raised_as (λ c. SameHead b c z) (record { attribute_is = refl; count_is = refl; left_is = refl; right_is = refl })
        (λ at l m. put_entries b p tp z tz at key l m)

    pub raised-header : SameHeader b (raised k b key p i)
    raised-header = let g = (is-page (length b) p tp).low in raised_as (λ c. SameHeader b c) refl (λ at l m. put-outside b at key (omega arith))

  -- a page that is written whole
  module _ (b : List ℕ) (q a l r : ℕ) (es : List Item) (tq : is_page (length b) q ≡ true) (ha : a < 2 ^ 16) (hl : l < 2 ^ 32) (hr : r < 2 ^ 32)
      (f : All (Fit k) es) (few : length es ≤ capacity k) where
    abbrev b1 : List ℕ
    b1 = put b q (to_le16 a)

    abbrev b2 : List ℕ
    b2 = put b1 (q + 4) (to_le32 l)

    abbrev b3 : List ℕ
    b3 = put b2 (q + 8) (to_le32 r)

    pub new-head : (z : ℕ) → is_page (length b) z ≡ true → Head (new_page b q a l r es) z (cond (eqb z q) a (attribute_at b z))
        (cond (eqb z q) (length es) (count_at b z)) (cond (eqb z q) l (left_at b z)) (cond (eqb z q) r (right_at b z))
    new-head z tz =
        let l1 : length b1 ≡ length b = length-put b q (to_le16 a) in
        let l2 : length b2 ≡ length b = length-put b1 (q + 4) (to_le32 l) ∙ l1 in
        let l3 : length b3 ≡ length b = length-put b2 (q + 8) (to_le32 r) ∙ l2 in
        let s1 = put-attribute b q tq z tz a ha in
        let s2 = put-left b1 q (page-of q l1 tq) z (page-of z l1 tz) l hl in
        let s3 = put_right b2 q (page-of q l2 tq) z (page-of z l2 tz) r hr in
        let s4 = with_head b3 q es (page-of q l3 tq) f few z (page-of z l3 tz) in
        rw (new-stores b q a l r es) (record {
          attribute_is = s4.attribute_is ∙ s3.attribute_is ∙ s2.attribute_is ∙ s1.attribute_is;
          count_is = s4.count_is ∙ ap (cond (eqb z q) (length es)) (s3.count_is ∙ s2.count_is ∙ s1.count_is);
          left_is = s4.left_is ∙ s3.left_is ∙ s2.left_is ∙ ap (cond (eqb z q) l) s1.left_is;
          right_is = s4.right_is ∙ s3.right_is ∙ ap (cond (eqb z q) r) (s2.right_is ∙ s1.right_is);
        })

    pub new-header : SameHeader b (new_page b q a l r es)
    unfolding new_page
    new-header = put-outside b q _ (is-page (length b) q tq).low

  -- the page beyond, at r, gets q for its left neighbour
  module _ (b : List ℕ) (r q : ℕ) (q32 : q < 2 ^ 32) where
    pub beyond-head : (z : ℕ) → is_page (length b) z ≡ true
        → Head (link_beyond b r q) z (attribute_at b z) (count_at b z) (cond (eqb z r) q (left_at b z)) (right_at b z)
    unfolding link_beyond
    beyond-head z tz = either (is_page (length b) r)
        (λ e. rw e (put-left b r e z tz q q32))
        (λ e. rw (e, ne_eqb z r (λ u. contra tz (ap (is_page (length b)) u ∙ e)))
        (record { attribute_is = refl; count_is = refl; left_is = refl; right_is = refl }))

    pub beyond-header : SameHeader b (link_beyond b r q)
    unfolding link_beyond
    beyond-header = either (is_page (length b) r)
        (λ e. rw e (put-outside b (r + 4) (to_le32 q) (omega (arith, (is-page (length b) r e).low))))
        (λ e. rw e)

  -- the page at p is split, with the new page at q: neither has the root bit, and q stands between p and the page beyond
  module _ (b : List ℕ) (p : ℕ) (es : List Item) (q : ℕ) (tp : is_page (length b) p ≡ true) (tq : is_page (length b) q ≡ true) (ne : p ≡ q → ⊥)
      (f : All (Fit k) es) (two : 1 < capacity k) (few : length es ≤ suc (capacity k)) where
    abbrev m : ℕ
    m = half (length es)

    abbrev s0 : List ℕ
    s0 = with_entries b p (take m es)

    abbrev s1 : List ℕ
    s1 = put s0 p (to_le16 (without_root (attribute_at b p)))

    abbrev s2 : List ℕ
    s2 = put s1 (p + 8) (to_le32 q)

    abbrev s3 : List ℕ
    s3 = link_beyond s2 (right_at b p) q

    n0 : length s0 ≡ length b
    n0 = length_with k b p (take m es)

    n1 : length s1 ≡ length b
    n1 = length-put s0 p (to_le16 (without_root (attribute_at b p))) ∙ n0

    n2 : length s2 ≡ length b
    n2 = length-put s1 (p + 8) (to_le32 q) ∙ n1

    n3 : length s3 ≡ length b
    n3 = length-beyond s2 (right_at b p) q ∙ n2

    lower-few : length (take m es) ≤ capacity k
    lower-few = simp length-take (omega arith)

    upper-few : length (drop m es) ≤ capacity k
    upper-few = simp length-drop (omega arith)

    module _ (p32 : p < 2 ^ 32) (q32 : q < 2 ^ 32) (a16 : attribute_at b p < 2 ^ 16) (r32 : right_at b p < 2 ^ 32) where
      pub split-head : (z : ℕ) → is_page (length b) z ≡ true → Head (split_page b p es q) z
          (cond (eqb z q) (without_root (attribute_at b p)) (cond (eqb z p) (without_root (attribute_at b p)) (attribute_at b z)))
          (cond (eqb z q) (length (drop (half (length es)) es)) (cond (eqb z p) (length (take (half (length es)) es)) (count_at b z)))
          (cond (eqb z q) p (cond (eqb z (right_at b p)) q (left_at b z)))
          (cond (eqb z p) q (cond (eqb z q) (right_at b p) (right_at b z)))
      unfolding split_page
      split-head z tz =
          let a = without_root (attribute_at b p) in
          let r = right_at b p in
          let gp = is-page (length b) p tp in
          let e0 = with_head b p (take m es) tp (halves-fit k es m f).0 lower-few z tz in
          let e1 = put-attribute s0 p (page-of p n0 tp) z (page-of z n0 tz) a (omega arith) in
          let e2 = put_right s1 p (page-of p n1 tp) z (page-of z n1 tz) q q32 in
          let e3 = beyond-head s2 r q q32 z (page-of z n2 tz) in
          let e4 = new-head s3 q a p r (drop m es) (page-of q n3 tq) (omega arith) p32 r32 (halves-fit k es m f).1 upper-few z (page-of z n3 tz) in
          record {
            attribute_is = e4.attribute_is
                ∙ ap (cond (eqb z q) a) (e3.attribute_is ∙ e2.attribute_is ∙ e1.attribute_is ∙ ap (cond (eqb z p) a) e0.attribute_is);
            count_is = e4.count_is ∙ ap (cond (eqb z q) (length (drop m es))) (e3.count_is ∙ e2.count_is ∙ e1.count_is ∙ e0.count_is);
            left_is = e4.left_is ∙ ap (cond (eqb z q) p) (e3.left_is ∙ ap (cond (eqb z r) q) (e2.left_is ∙ e1.left_is ∙ e0.left_is));
            right_is = e4.right_is ∙ ap (cond (eqb z q) r) (e3.right_is ∙ e2.right_is ∙ ap (cond (eqb z p) q) (e1.right_is ∙ e0.right_is))
                ∙ either (eqb z p) (λ u. rw (u, ne_eqb z q (λ v. ne (sym (eqb-true z p u) ∙ v)))) (λ u. rw u);
          }

      pub split-header : SameHeader b (split_page b p es q)
      unfolding split_page
      split-header =
          let g = (is-page (length b) p tp).low in
          new-header s3 q (without_root (attribute_at b p)) p (right_at b p) (drop m es) (page-of q n3 tq) (omega arith) p32 r32
          (halves-fit k es m f).1 upper-few
          ∙ beyond-header s2 (right_at b p) q q32
          ∙ put-outside s1 (p + 8) (to_le32 q) (omega arith)
          ∙ put-outside s0 p (to_le16 (without_root (attribute_at b p))) g
          ∙ with_header b p (take m es) tp (halves-fit k es m f).0 lower-few
