-- Laws: each store keeps the bytes of the pages that it is not for, in an insertion but for the left link of the page beyond. Cited by the laws of insertion
-- and of removal: so the pages that are still free keep their form. Assumes nothing.
use Rattle.std.specs.Prelude.{◌≡◌, refl, true, List, ℕ, suc, ◌+◌, ◌≤◌, ◌<◌, take, drop}
use Rattle.std.proofs.Common.{sym, ap, ◌∙◌, inl, inr, add-zero, arith, length-append}
use Rattle.std.proofs.Math.ListN.{length, length-take, length-drop}
use Rattle.basis.specs.Lists.{All}
use Rattle.basis.specs.Tests.{either}
use Rattle.octets.specs.Bytes.{to_le16, to_le32}
use Rattle.octets.specs.Store.{put, window}
use Rattle.octets.specs.StoreLaws.{length-put, window-after}
use Rattle.octets.specs.NumberLaws.{length-to_le16, length-to_le32, le32-same}
use Rattle.tree.specs.Lists.{half}
use Rattle.idx_page.specs.Header.{page_size, is_page}
use Rattle.idx_page.specs.HeaderLaws.{is-page}
use Rattle.idx_page.specs.Page.{attribute_at, right_at, left_place, right_place, entries_start, capacity}
use Rattle.idx_page.specs.Reading.{Item}
use Rattle.idx_page.proofs.ReadingLaws.{window-window, window_in_page}
use Rattle.idx_layout.specs.Layout.{area, with_entries, new_page, without_root, link_beyond, split_page}
use Rattle.idx_entries.specs.Entries.{raised}
use Rattle.idx_leaf.specs.ItemLaws.{Fit}
use Rattle.idx_layout_laws.specs.EntryLaws.{page-of, window-other, length-area, length_with, length-beyond, halves-fit}
use Rattle.idx_layout_laws.specs.HeadLaws.{kept, raised_as}

-- the page at z has the bytes in b' that it has in b, but for its left link: the bytes before that link and those after it
pub record SameButLeft (b b' : List ℕ) (z : ℕ) : Type 0 where
  pub front : window b' z left_place ≡ window b z left_place
  pub back : window b' (z + right_place) 504 ≡ window b (z + right_place) 504

pub unchanged : (b : List ℕ) (z : ℕ) → SameButLeft b b z
unchanged b z = record { front = refl; back = refl }

-- one change after another
pub both-kept : {b b' b'' : List ℕ} {z : ℕ} → SameButLeft b b' z → SameButLeft b' b'' z → SameButLeft b b'' z
both-kept s t = record { front = t.front ∙ s.front; back = t.back ∙ s.back }

-- a page with all its bytes
whole-kept : (b b' : List ℕ) (z : ℕ) → window b' z page_size ≡ window b z page_size → SameButLeft b b' z
whole-kept b b' z e = record {
  front = rw add-zero at (window_in_page b' b z e 0 left_place (omega arith));
  back = window_in_page b' b z e right_place 504 (omega arith);
}

-- such a page has its right neighbour
pub right_kept : {b b' : List ℕ} {z : ℕ} → SameButLeft b b' z → right_at b' z ≡ right_at b z
right_kept {b} {b'} {z} s = le32-same b' b (z + 8)
    (rw add-zero at
    (sym (window-window b' (z + 8) 504 0 4 (omega arith)) ∙ ap (λ (w : List ℕ). window w 0 4) s.back ∙ window-window b (z + 8) 504 0 4 (omega arith)))

-- a store into the file's header, and a store into the page at x
pub header-other : (b : List ℕ) (at : ℕ) (ys : List ℕ) → at + length ys ≤ page_size → (z : ℕ) → is_page (length b) z ≡ true → SameButLeft b (put b at ys) z
header-other b at ys h z t =
    let g = (is-page (length b) z t).low in
    whole-kept b (put b at ys) z (window-after b at ys z page_size (omega arith))

module _ (b : List ℕ) (x : ℕ) (tx : is_page (length b) x ≡ true) (z : ℕ) (tz : is_page (length b) z ≡ true) (ne : z ≡ x → ⊥) where
  pub put-bytes : (at : ℕ) (ys : List ℕ) → x ≤ at → at + length ys ≤ x + page_size → window (put b at ys) z page_size ≡ window b z page_size
  put-bytes at ys l m =
      window-other b x at ys (is-page (length b) x tx).whole l m z (is-page (length b) z tz).whole ne z page_size (omega arith) (omega arith)

  put_other : (at : ℕ) (ys : List ℕ) → x ≤ at → at + length ys ≤ x + page_size → SameButLeft b (put b at ys) z
  put_other at ys l m = whole-kept b (put b at ys) z (put-bytes at ys l m)

-- the page beyond, at r, gets q for its left neighbour
beyond-other : (b : List ℕ) (r q z : ℕ) → is_page (length b) z ≡ true → SameButLeft b (link_beyond b r q) z
unfolding link_beyond
beyond-other b r q z tz = either (is_page (length b) r)
    (λ e.
    let four = length-to_le32 q in
    rw e (record {
      front = kept b r e z tz (r + 4) (to_le32 q) z 4 (omega arith) (omega arith) (omega arith) (omega arith) (λ u. inl (omega arith));
      back = kept b r e z tz (r + 4) (to_le32 q) (z + 8) 504 (omega arith) (omega arith) (omega arith) (omega arith) (λ u. inr (omega arith));
    }))
    (λ e. rw e (unchanged b z))

module _ (k : ℕ) where
  -- the page at p gets other entries, a page is written whole, and the key of an entry is raised
  module _ (b : List ℕ) (p : ℕ) (tp : is_page (length b) p ≡ true) (z : ℕ) (tz : is_page (length b) z ≡ true) (ne : z ≡ p → ⊥) where
    pub with_bytes : (es : List Item) → All (Fit k) es → length es ≤ capacity k → window (with_entries b p es) z page_size ≡ window b z page_size
    unfolding with_entries
    with_bytes es f few =
        let count = to_le16 (length es) in
        let b1 = put b (p + 2) count in
        let l1 : length b1 ≡ length b = length-put b (p + 2) count in
        put-bytes b1 p (page-of p l1 tp) z (page-of z l1 tz) ne (p + entries_start) (area es) (omega arith) (omega (arith, length-area k es f few))
        ∙ put-bytes b p tp z tz ne (p + 2) count (omega arith) (omega (arith, length-to_le16 (length es)))

    pub with_other : (es : List Item) → All (Fit k) es → length es ≤ capacity k → SameButLeft b (with_entries b p es) z
    with_other es f few = whole-kept b (with_entries b p es) z (with_bytes es f few)

    pub new-bytes : (a l r : ℕ) (es : List Item) → All (Fit k) es → length es ≤ capacity k → window (new_page b p a l r es) z page_size ≡ window b z page_size
    unfolding new_page
    new-bytes a l r es f few = put-bytes b p tp z tz ne p _ (omega arith)
        (simp (length-append, length-to_le16, length-to_le32) (omega (arith, length-area k es f few)))

    pub new-other : (a l r : ℕ) (es : List Item) → All (Fit k) es → length es ≤ capacity k → SameButLeft b (new_page b p a l r es) z
    new-other a l r es f few = whole-kept b (new_page b p a l r es) z (new-bytes a l r es f few)

    pub raised-other : (key : List ℕ) (i : ℕ) → length key ≡ k → SameButLeft b (raised k b key p i) z
    raised-other key i long =
        raised_as k b key p i tp long (λ c. SameButLeft b c z) (unchanged b z) (λ at l m. put_other b p tp z tz ne at key (omega arith) m)

  -- the page at p is split, with the new page at q
  pub split-others : (b : List ℕ) (p : ℕ) (es : List Item) (q : ℕ) → is_page (length b) p ≡ true → is_page (length b) q ≡ true → All (Fit k) es
      → 1 < capacity k → length es ≤ suc (capacity k) → (z : ℕ) → is_page (length b) z ≡ true → (z ≡ p → ⊥) → (z ≡ q → ⊥)
      → SameButLeft b (split_page b p es q) z
  unfolding split_page
  split-others b p es q tp tq f two few z tz np nq =
      let m = half (length es) in
      let a = without_root (attribute_at b p) in
      let r = right_at b p in
      let fits = halves-fit k es m f in
      let s0 = with_entries b p (take m es) in
      let s1 = put s0 p (to_le16 a) in
      let s2 = put s1 (p + 8) (to_le32 q) in
      let s3 = link_beyond s2 r q in
      let n0 : length s0 ≡ length b = length_with k b p (take m es) in
      let n1 : length s1 ≡ length b = length-put s0 p (to_le16 a) ∙ n0 in
      let n2 : length s2 ≡ length b = length-put s1 (p + 8) (to_le32 q) ∙ n1 in
      let n3 : length s3 ≡ length b = length-beyond s2 r q ∙ n2 in
      let e0 = with_other b p tp z tz np (take m es) fits.0 (simp length-take (omega arith)) in
      let e1 = put_other s0 p (page-of p n0 tp) z (page-of z n0 tz) np p (to_le16 a) (omega arith) (omega (arith, length-to_le16 a)) in
      let e2 = put_other s1 p (page-of p n1 tp) z (page-of z n1 tz) np (p + 8) (to_le32 q) (omega arith) (omega (arith, length-to_le32 q)) in
      let e3 = beyond-other s2 r q z (page-of z n2 tz) in
      let e4 = new-other s3 q (page-of q n3 tq) z (page-of z n3 tz) nq a p r (drop m es) fits.1 (simp length-drop (omega arith)) in
      both-kept (both-kept (both-kept (both-kept e0 e1) e2) e3) e4
