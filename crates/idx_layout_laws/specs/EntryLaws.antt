-- Laws: the entries of every page after each store that the rules of insertion make: the page that is written, and all others as they were, since
-- distinct multiples of 512 do not overlap. Cited by the laws of insertion. Assumes nothing.
use Rattle.std.specs.Prelude.{◌≡◌, refl, true, false, ◌&&◌, take, drop, replicate, ltb, eqb}
use Rattle.std.proofs.Math.Path.{sym, ap, fun_ext}
use Rattle.std.proofs.Common.{ap₂, ◌∙◌, length-append, take-append-drop, ltb-true, ltb-false, lt-ltb, eqb-true}
use Rattle.std.proofs.Math.Bool.{not}
use mathlib.Core.List.{List, [], ◌∷◌, ◌++◌, map}
use Prim.Native.Nat.{ℕ, zero, suc, ◌+◌, ◌-◌, ◌*◌, ◌%◌, ◌^◌, ◌≤◌, ◌<◌, min}
use Rattle.std.proofs.Math.Nat.{suc-mul, zero-mul}
use native.Mathlib.Omega.{arith}
use Rattle.std.proofs.Math.ListN.{length, length-take, length-drop}
use Rattle.std.proofs.lemmas.List.{length-replicate}
use Rattle.std.proofs.Math.Seq.{split_at}
use Rattle.std.proofs.lemmas.Bool.{eqb-false}
use Rattle.basis.specs.Lists.{All, all_left, all_right}
use Rattle.basis.specs.Tests.{either}
use Rattle.octets.specs.Bytes.{to_le16, to_le32}
use Rattle.octets.specs.Store.{put, window}
use Rattle.octets.specs.Order.{bytes_le}
use Rattle.octets.specs.OrderLaws.{le_total}
use Rattle.octets.specs.StoreLaws.{length-put, window-before, window-after, window-inside, window_same, length-window, drop_put}
use Rattle.octets.specs.NumberLaws.{length-to_le16, length-to_le32, le16-same, le16-put}
use Rattle.tree.specs.Lists.{half}
use Rattle.tree.specs.Order.{larger}
use Rattle.tree.proofs.OrderLaws.{larger-same}
use Rattle.tree.specs.Store.{Store}
use Rattle.tree.specs.Store.Steps.{write}
use Rattle.idx_page.specs.Header.{page_size, is_page}
use Rattle.idx_page.specs.Page.{attribute_at, count_at, right_at, entries_start, entry_area, capacity, entry_offset}
use Rattle.idx_page.specs.PageLaws.{entries_fit, entry-inside, entry-low, capacity-small}
use Rattle.idx_page.specs.HeaderLaws.{is-page}
use Rattle.idx_page.specs.KeyOrder.{bytes_order}
use Rattle.idx_page.specs.Reading.{Item, items, items_at, numbered}
use Rattle.idx_page.proofs.ReadingLaws.{read_count, items_take}
use Rattle.idx_leaf.specs.Leaf.{items_in, item_of}
use Rattle.idx_layout.specs.Layout.{encode, area, with_entries, new_page, without_root, link_beyond, split_page}
use Rattle.idx_entries.specs.Entries.{replaced, raised}
use Rattle.idx_layout.specs.WriteLaws.{new-page_by}
use Rattle.idx_leaf.specs.ItemLaws.{Fit, length-items}
use Rattle.idx_layout.specs.EncodeLaws.{length-encode, items-encode}

-- the entries of every page of a buffer, with their numbers: the store that insertion works on
abbrev pub entries_in : ℕ → List ℕ → Store (List ℕ)
entries_in k b p = map numbered (items_in k b p)

-- a page of the buffer whose offset has four bytes
abbrev pub Usable : List ℕ → ℕ → Type 0
Usable b p = (is_page (length b) p ≡ true) × (p < 2 ^ 32)

-- a page of a buffer is a page of every buffer of its length
pub page-of : {m n : ℕ} (p : ℕ) → m ≡ n → is_page n p ≡ true → is_page m p ≡ true
page-of p e t = ap (λ (l : ℕ). is_page l p) e ∙ t

-- a store into the page at x keeps the bytes of the page at z
module _ (b : List ℕ) (x at : ℕ) (ys : List ℕ) (hx : x % page_size ≡ 0) (low : x ≤ at) (high : at + length ys ≤ x + page_size) (z : ℕ)
    (hz : z % page_size ≡ 0) (ne : z ≡ x → ⊥) where
  pub window-other : (i n : ℕ) → z ≤ i → i + n ≤ z + page_size → window (put b at ys) i n ≡ window b i n
  window-other i n l m = either (ltb z x)
      (λ e. window-before b at ys i n (omega (arith, ltb-true z x e)))
      (λ e. window-after b at ys i n (omega (arith, ltb-false z x e)))

module _ (k : ℕ) where
  items_cong : (b b' : List ℕ) (z : ℕ) → length b' ≡ length b → (is_page (length b) z ≡ true → window b' (z + 2) 2 ≡ window b (z + 2) 2)
      → (is_page (length b) z ≡ true → window b' (z + entries_start) entry_area ≡ window b (z + entries_start) entry_area) → items_in k b' z ≡ items_in k b z
  unfolding items_at
  items_cong b b' z e f g = either (is_page (length b) z)
      (λ t. rw (e, t, le16-same b' b (z + 2) (f t), g t))
      (λ t. rw (e, t))

  -- a store into the page at x keeps the entries of all other pages
  items-other : (b : List ℕ) (x at : ℕ) (ys : List ℕ) → x % page_size ≡ 0 → x ≤ at → at + length ys ≤ x + page_size → (z : ℕ) → (z ≡ x → ⊥)
      → items_in k (put b at ys) z ≡ items_in k b z
  items-other b x at ys hx low high z ne =
      let clear : is_page (length b) z ≡ true → (i n : ℕ) → z ≤ i → i + n ≤ z + page_size → window (put b at ys) i n ≡ window b i n =
      λ t. window-other b x at ys hx low high z (is-page (length b) z t).whole ne in
      items_cong b (put b at ys) z (length-put b at ys) (λ t. clear t (z + 2) 2 (omega arith) (omega arith))
      (λ t. clear t (z + entries_start) entry_area (omega arith) (omega arith))

  -- a store into a page's attribute, into its links or into the header keeps all entries
  entries-attribute : (b : List ℕ) (x : ℕ) (ys : List ℕ) → x % page_size ≡ 0 → length ys ≤ 2 → entries_in k (put b x ys) ≡ entries_in k b
  entries-attribute b x ys hx l = fun_ext (λ z. ap (map numbered) (either (eqb z x)
      (λ e. rw (eqb-true z x e) (items_cong b (put b x ys) x (length-put b x ys)
      (λ t. window-after b x ys (x + 2) 2 (omega arith)) (λ t. window-after b x ys (x + entries_start) entry_area (omega arith))))
      (λ e. items-other b x x ys hx (omega arith) (omega arith) z (eqb-false z x e))))

  pub entries-links : (b : List ℕ) (x at : ℕ) (ys : List ℕ) → x % page_size ≡ 0 → x + 4 ≤ at → at + length ys ≤ x + entries_start
      → entries_in k (put b at ys) ≡ entries_in k b
  entries-links b x at ys hx low high = fun_ext (λ z. ap (map numbered) (either (eqb z x)
      (λ e. rw (eqb-true z x e) (items_cong b (put b at ys) x (length-put b at ys)
      (λ t. window-before b at ys (x + 2) 2 (omega arith)) (λ t. window-after b at ys (x + entries_start) entry_area (omega arith))))
      (λ e. items-other b x at ys hx (omega arith) (omega arith) z (eqb-false z x e))))

  pub entries-header : (b : List ℕ) (at : ℕ) (ys : List ℕ) → at + length ys ≤ page_size → entries_in k (put b at ys) ≡ entries_in k b
  entries-header b at ys l = fun_ext (λ z. ap (map numbered) (items_cong b (put b at ys) z (length-put b at ys)
      (λ t. let g = (is-page (length b) z t).low in window-after b at ys (z + 2) 2 (omega arith))
      (λ t. let g = (is-page (length b) z t).low in window-after b at ys (z + entries_start) entry_area (omega arith))))

  -- a page's entry area as bytes, and read back
  pub length-area : (es : List Item) → All (Fit k) es → length es ≤ capacity k → length (area es) ≡ entry_area
  unfolding area
  length-area es f h = simp (length-append, length-replicate) (omega (arith, length-encode k es f, entries_fit k (length es) h))

  items-area : (es : List Item) → All (Fit k) es → items k (length es) (area es) ≡ es
  unfolding area
  items-area es f = items-encode k es (replicate (entry_area - length (encode es)) 0) f

  items_are : (b : List ℕ) (p : ℕ) (es : List Item) → is_page (length b) p ≡ true → count_at b p ≡ length es
      → window b (p + entries_start) entry_area ≡ area es → All (Fit k) es → length es ≤ capacity k → items_in k b p ≡ es
  unfolding items_at
  items_are b p es t c a f h =
      let m : min (length es) (capacity k) ≡ length es = omega arith in
      rw (t, c, a, m) (items-area es f)

  small_count : (es : List Item) → length es ≤ capacity k → length es < 2 ^ 16
  small_count es h = omega (arith, capacity-small k)

  -- a page that gets other entries, and a page that is written whole
  pub entries_with : (b : List ℕ) (p : ℕ) (es : List Item) → is_page (length b) p ≡ true → All (Fit k) es → length es ≤ capacity k
      → entries_in k (with_entries b p es) ≡ write (entries_in k b) p (map numbered es)
  unfolding with_entries
  entries_with b p es t f h =
      let g = is-page (length b) p t in
      let n = to_le16 (length es) in
      let b1 = put b (p + 2) n in
      let b2 = put b1 (p + entries_start) (area es) in
      let two = length-to_le16 (length es) in
      let all = length-area es f h in
      let l1 = length-put b (p + 2) n in
      let l2 = length-put b1 (p + entries_start) (area es) ∙ l1 in
      let count : count_at b2 p ≡ length es =
      le16-same b2 b1 (p + 2) (window-before b1 (p + entries_start) (area es) (p + 2) 2 (omega arith))
      ∙ le16-put b (p + 2) (length es) (small_count es h) (omega (arith, g.high)) in
      let here : items_in k b2 p ≡ es =
      items_are b2 p es (page-of p l2 t) count (window_same b1 (p + entries_start) (area es) entry_area all (omega (arith, g.high, l1))) f h in
      fun_ext (λ z. either (eqb z p)
      (λ e. rw e (ap (map numbered) (ap (items_in k b2) (eqb-true z p e) ∙ here)))
      (λ e. rw e (ap (map numbered) (items-other b1 p (p + entries_start) (area es) g.whole (omega arith) (omega arith) z (eqb-false z p e)
      ∙ items-other b p (p + 2) n g.whole (omega arith) (omega arith) z (eqb-false z p e)))))

  pub length_with : (b : List ℕ) (p : ℕ) (es : List Item) → length (with_entries b p es) ≡ length b
  unfolding with_entries
  length_with b p es = length-put (put b (p + 2) (to_le16 (length es))) (p + entries_start) (area es) ∙ length-put b (p + 2) (to_le16 (length es))

-- a page written whole is its attribute and its links, stored first, and its entries
pub new-stores : (b : List ℕ) (p a l r : ℕ) (es : List Item)
    → new_page b p a l r es ≡ with_entries (put (put (put b p (to_le16 a)) (p + 4) (to_le32 l)) (p + 8) (to_le32 r)) p es
new-stores b p a l r es = sym (new-page_by b p a l r es refl refl refl refl)

pub length-new : (b : List ℕ) (p a l r : ℕ) (es : List Item) → length (new_page b p a l r es) ≡ length b
unfolding new_page
length-new b p a l r es = length-put b p _

module _ (k : ℕ) where
  pub entries-new : (b : List ℕ) (p a l r : ℕ) (es : List Item) → is_page (length b) p ≡ true → All (Fit k) es → length es ≤ capacity k
      → entries_in k (new_page b p a l r es) ≡ write (entries_in k b) p (map numbered es)
  entries-new b p a l r es t f h =
      let g = is-page (length b) p t in
      let b1 = put b p (to_le16 a) in
      let b2 = put b1 (p + 4) (to_le32 l) in
      let b3 = put b2 (p + 8) (to_le32 r) in
      let l3 : length b3 ≡ length b = length-put b2 (p + 8) (to_le32 r) ∙ length-put b1 (p + 4) (to_le32 l) ∙ length-put b p (to_le16 a) in
      let head : entries_in k b3 ≡ entries_in k b =
      entries-links k b2 p (p + 8) (to_le32 r) g.whole (omega arith) (omega (arith, length-to_le32 r))
      ∙ entries-links k b1 p (p + 4) (to_le32 l) g.whole (omega arith) (omega (arith, length-to_le32 l))
      ∙ entries-attribute k b p (to_le16 a) g.whole (omega (arith, length-to_le16 a)) in
      rw (new-stores b p a l r es) (entries_with k b3 p es (page-of p l3 t) f h ∙ ap (λ (S : Store (List ℕ)). write S p (map numbered es)) head)

  -- a page has at most as many entries as fit
  pub items-few : (b : List ℕ) (p : ℕ) → length (items_in k b p) ≤ capacity k
  unfolding items_at
  items-few b p = either (is_page (length b) p)
      (λ t. rw (t, length-items k (read_count k b p) (window b (p + entries_start) entry_area)) (omega arith))
      (λ t. rw t (omega arith))

  -- the halves of a page that is split have keys of k bytes, if all entries have
  pub halves-fit : (es : List Item) (m : ℕ) → All (Fit k) es → All (Fit k) (take m es) × All (Fit k) (drop m es)
  halves-fit es m f =
      let g : All (Fit k) (take m es ++ drop m es) = rw (take-append-drop m es) f in
      (all_left (Fit k) (take m es) (drop m es) g, all_right (Fit k) (take m es) (drop m es) g)

pub length-beyond : (b : List ℕ) (r q : ℕ) → length (link_beyond b r q) ≡ length b
unfolding link_beyond
length-beyond b r q = either (is_page (length b) r) (λ e. rw e (length-put b (r + 4) (to_le32 q))) (λ e. rw e)

pub length-split : (b : List ℕ) (p : ℕ) (es : List Item) (q : ℕ) → length (split_page b p es q) ≡ length b
unfolding split_page
length-split b p es q = simp (length-new, length-beyond, length-put, length_with)

module _ (k : ℕ) where
  pub entries-beyond : (b : List ℕ) (r q : ℕ) → entries_in k (link_beyond b r q) ≡ entries_in k b
  unfolding link_beyond
  entries-beyond b r q = either (is_page (length b) r)
      (λ e. rw e (entries-links k b r (r + 4) (to_le32 q) (is-page (length b) r e).whole (omega arith) (omega (arith, length-to_le32 q))))
      (λ e. rw e)

  -- a page that is split keeps the lower half of the entries, and the new page has the others
  pub entries-split : (b : List ℕ) (p : ℕ) (es : List Item) (q : ℕ) → is_page (length b) p ≡ true → is_page (length b) q ≡ true → All (Fit k) es
      → 1 < capacity k → length es ≤ suc (capacity k)
      → entries_in k (split_page b p es q) ≡ write (write (entries_in k b) p (map numbered (take (half (length es)) es))) q
      (map numbered (drop (half (length es)) es))
  unfolding split_page
  entries-split b p es q tp tq f two few =
      let m = half (length es) in
      let a = without_root (attribute_at b p) in
      let r = right_at b p in
      let b0 = with_entries b p (take m es) in
      let b1 = put b0 p (to_le16 a) in
      let b2 = put b1 (p + 8) (to_le32 q) in
      let b3 = link_beyond b2 r q in
      let g = is-page (length b) p tp in
      let l3 : length b3 ≡ length b = length-beyond b2 r q ∙ length-put b1 (p + 8) (to_le32 q) ∙ length-put b0 p (to_le16 a) ∙ length_with k b p (take m es) in
      let lower : entries_in k b3 ≡ write (entries_in k b) p (map numbered (take m es)) =
      entries-beyond b2 r q
      ∙ entries-links k b1 p (p + 8) (to_le32 q) g.whole (omega arith) (omega (arith, length-to_le32 q))
      ∙ entries-attribute k b0 p (to_le16 a) g.whole (omega (arith, length-to_le16 a))
      ∙ entries_with k b p (take m es) tp (halves-fit k es m f).0 (simp length-take (omega arith)) in
      entries-new k b3 q a p r (drop m es) (page-of q l3 tq) (halves-fit k es m f).1 (simp length-drop (omega arith))
      ∙ ap (λ (S : Store (List ℕ)). write S q (map numbered (drop m es))) lower

-- the larger of the key above and the new key, in the place of the entry gone through; and the new key in its place
abbrev pub raise : List ℕ → Item → List Item
raise key e = (larger bytes_order e.0 key, e.1) ∷ []

abbrev with_key : List ℕ → Item → List Item
with_key key e = (key, e.1) ∷ []

raise-same : (key : List ℕ) (i : ℕ) (es : List Item) → i < length es → bytes_le key (item_of i es).0 ≡ true → replaced i (raise key) es ≡ es
raise-same key i es h e = rw (larger-same bytes_order (item_of i es).0 key e) (sym (split_at es i ([], []) h))

module _ (k : ℕ) where
  -- n entries after a key was stored at entry i
  items-key : (key : List ℕ) (i n : ℕ) (xs : List ℕ) → length key ≡ k → i < n → n * (k + 4) ≤ length xs
      → items k n (put xs (i * (k + 4)) key) ≡ replaced i (with_key key) (items k n xs)
  unfolding items window
  items-key key i zero xs e l h = absurd (omega arith)
  items-key key zero (suc n) xs e l h =
      let z : zero * (k + 4) ≡ 0 = zero-mul (k + 4) in
      let o : suc n * (k + 4) ≡ n * (k + 4) + (k + 4) = suc-mul n (k + 4) in
      let first : (b : List ℕ) → items k n (take (n * (k + 4)) b) ≡ items k n b = λ b. items_take k n (n * (k + 4)) b (omega arith) in
      let rest : items k n (drop (k + 4) (put xs 0 key)) ≡ items k n (drop (k + 4) xs) =
      sym (first (drop (k + 4) (put xs 0 key))) ∙ ap (items k n) (window-after xs 0 key (k + 4) (n * (k + 4)) (omega arith)) ∙ first (drop (k + 4) xs) in
      rw (z, rest)
      (ap₂ (λ (u v : List ℕ). (u, v) ∷ items k n (drop (k + 4) xs)) (window_same xs 0 key k e (omega arith)) (window-after xs 0 key k 4 (omega arith)))
  items-key key (suc i) (suc n) xs e l h =
      let m : suc i * (k + 4) ≡ k + 4 + i * (k + 4) = suc-mul i (k + 4) ∙ omega arith in
      let o : suc n * (k + 4) ≡ n * (k + 4) + (k + 4) = suc-mul n (k + 4) in
      rw (m, drop_put xs (i * (k + 4)) key (k + 4), items-key key i n (drop (k + 4) xs) e (omega arith) (simp length-drop (omega arith)))
      (ap₂ (λ (u v : List ℕ). (u, v) ∷ replaced i (with_key key) (items k n (drop (k + 4) xs)))
      (window-before xs (k + 4 + i * (k + 4)) key 0 k (omega arith)) (window-before xs (k + 4 + i * (k + 4)) key k 4 (omega arith)))

  write_same : (S : Store (List ℕ)) (p : ℕ) → write S p (S p) ≡ S
  write_same S p = fun_ext (λ z. either (eqb z p) (λ e. rw e (ap S (sym (eqb-true z p e)))) (λ e. rw e))

  pub length-raised : (b key : List ℕ) (p i : ℕ) → length (raised k b key p i) ≡ length b
  unfolding raised
  length-raised b key p i = either (ltb i (length (items_in k b p)) && not (bytes_le key (item_of i (items_in k b p)).0))
      (λ e. rw e (length-put b (entry_offset k p i) key))
      (λ e. rw e)

  items-read : (b : List ℕ) (p : ℕ) → is_page (length b) p ≡ true → items_in k b p ≡ items k (read_count k b p) (window b (p + entries_start) entry_area)
  unfolding items_at
  items-read b p t = rw t

  -- the entries of a page after the key of entry i was stored
  items-stored : (b key : List ℕ) (p i : ℕ) → is_page (length b) p ≡ true → length key ≡ k → i < length (items_in k b p)
      → items_in k (put b (entry_offset k p i) key) p ≡ replaced i (with_key key) (items_in k b p)
  unfolding entry_offset
  items-stored b key p i t lk h =
      let at : ℕ = p + entries_start + i * (k + 4) in
      let n : ℕ = read_count k b p in
      let w = window b (p + entries_start) entry_area in
      let few = items-few k b p in
      let all : length (items_in k b p) ≡ n = ap length (items-read b p t) ∙ length-items k n w in
      let fits : n * (k + 4) ≤ entry_area = entries_fit k n (omega arith) in
      let upto : suc i * (k + 4) ≤ entry_area = entries_fit k (suc i) (omega arith) in
      let s : suc i * (k + 4) ≡ i * (k + 4) + (k + 4) = suc-mul i (k + 4) in
      let count : read_count k (put b at key) p ≡ n =
      ap (λ (j : ℕ). min j (capacity k)) (le16-same (put b at key) b (p + 2) (window-before b at key (p + 2) 2 (omega arith))) in
      rw (
        items-read (put b at key) p (page-of p (length-put b at key) t),
        items-read b p t,
        count,
        window-inside b (i * (k + 4)) key (p + entries_start) entry_area (omega arith),
      )
      (items-key key i n w lk (omega arith) (rw (length-window b (p + entries_start) entry_area (omega (arith, (is-page (length b) p t).high))) fits))

  -- if no page splits below it, a page has the larger key in the place of the key of entry i
  pub entries-raised : (b key : List ℕ) (p i : ℕ) → is_page (length b) p ≡ true → length key ≡ k → i < length (items_in k b p)
      → entries_in k (raised k b key p i) ≡ write (entries_in k b) p (map numbered (replaced i (raise key) (items_in k b p)))
  unfolding raised
  entries-raised b key p i t lk h =
      let es = items_in k b p in
      let g = is-page (length b) p t in
      let at = entry_offset k p i in
      let few = items-few k b p in
      let inside = entry-inside k p i (omega arith) in
      let low = entry-low k p i in
      either (bytes_le key (item_of i es).0)
      (λ e. rw (lt-ltb i (length es) h, e, raise-same key i es h e) (sym (write_same (entries_in k b) p)))
      (λ e. rw (lt-ltb i (length es) h, e, le_total key (item_of i es).0 e)
      (fun_ext (λ z. either (eqb z p)
      (λ f. rw f (ap (map numbered) (ap (items_in k (put b at key)) (eqb-true z p f) ∙ items-stored b key p i t lk h)))
      (λ f. rw f (ap (map numbered) (items-other k b p at key g.whole (omega arith) (omega arith) z (eqb-false z p f)))))))
