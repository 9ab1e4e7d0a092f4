-- Laws: the stores that write a header, a page's entries, a new page or a page that is split are the rule's. Assumes nothing.
use Prim.Native.Nat.{ℕ, zero, suc, ◌+◌, ◌-◌, ◌*◌, ◌/◌, ◌≤◌}
use Rattle.std.specs.Prelude.{◌≡◌, refl, true, List, ◌++◌, replicate}
use Rattle.std.proofs.Math.Path.{sym}
use Rattle.std.proofs.Common.{ap, ◌∙◌, le-div_iff_mul-le, mul-le-mul_right, add-mul, arith, length-take, length-drop, take_all}
use Rattle.std.proofs.Math.ListN.{length, take, drop}
use Rattle.octets.specs.Bytes.{to_le16, to_le32}
use Rattle.octets.specs.Store.{put}
use Rattle.octets.specs.StoreLaws.{put_append, put_comm}
use Rattle.octets.specs.NumberLaws.{length-to_le16, length-to_le32}
use Rattle.idx_page.specs.Header.{max_key, page_size, no_page, free_place, key_length_place, features_place, expression_place, max_features, is_page}
use Rattle.idx_page.specs.Page.{attribute_at, right_at, entries_start, entry_area, capacity, entry_offset}
use Rattle.idx_page.specs.Reading.{Item, items}
use Rattle.idx_page.specs.PageLaws.{entries_fit, capacity-small}
use Rattle.idx_page.specs.HeaderLaws.{is-page}
use Rattle.idx_page.proofs.ReadingLaws.{items_take}
use Rattle.idx_layout.specs.Layout.{with_attribute, with_count, with_left, with_right, with_root, with_size, header_bytes}
use Rattle.idx_layout.specs.Layout.{encode, area, with_entries, new_page, without_root, link_beyond, split_page}
use Rattle.idx_layout.specs.Given.{Over}
use Rattle.idx_page.specs.Within.{Within}
use Rattle.idx_leaf.specs.ItemLaws.{length-items, take_items, drop_items}
use Rattle.idx_layout.specs.EncodeLaws.{encode-items}

-- a header written whole, as the stores of its parts: the features are one byte, stored with the zero after it
header-parts : (root size k f : ℕ) (e : List ℕ) → f ≤ max_features
    → header_bytes root size k f e
    ≡ to_le32 root ++ (to_le32 no_page ++ (to_le32 size ++ (to_le16 k ++ (to_le16 f ++ (e ++ replicate (page_size - expression_place - length e) 0)))))
unfolding to_le16
header-parts root size k zero e h = refl
header-parts root size k (suc zero) e h = refl
header-parts root size k (suc (suc f)) e h = absurd (omega arith)

pub header_by : (b e : List ℕ) (root size k f : ℕ) → f ≤ max_features → {l1 l2 l3 l4 l5 l6 l7 : List ℕ} → l1 ≡ with_root b root
    → l2 ≡ put l1 free_place (to_le32 no_page)
    → l3 ≡ with_size l2 size → l4 ≡ put l3 key_length_place (to_le16 k) → l5 ≡ put l4 features_place (to_le16 f) → l6 ≡ put l5 expression_place e
    → l7 ≡ put l6 (expression_place + length e) (replicate (page_size - (expression_place + length e)) 0) → l7 ≡ put b 0 (header_bytes root size k f e)
header_by b e root size k f few e1 e2 e3 e4 e5 e6 e7 =
    let z : page_size - (expression_place + length e) ≡ page_size - expression_place - length e = omega arith in
    e7
    ∙ rw (
      e6,
      e5,
      e4,
      e3,
      e2,
      e1,
      z,
      header-parts root size k f e few,
      put_append b 0 (to_le32 root),
      length-to_le32 root,
      put_append _ 4 (to_le32 no_page),
      length-to_le32 no_page,
      put_append _ 8 (to_le32 size),
      length-to_le32 size,
      put_append _ 12 (to_le16 k),
      length-to_le16 k,
      put_append _ 14 (to_le16 f),
      length-to_le16 f,
      put_append _ 16 e,
    )

-- the least that a page holds
pub capacity-least : (k : ℕ) → k ≤ max_key → 4 ≤ capacity k
unfolding capacity
capacity-least k h = (le-div_iff_mul-le {k = k + 4} {x = 4} {y = entry_area} (omega arith)).1 (omega arith)

-- the products of sizes that a page with n entries, held in the bytes s, meets
pub record Sizes (b : List ℕ) (k p n : ℕ) (s : List ℕ) : Type 0 where
  pub inside : p + page_size ≤ length b
  pub few : n ≤ entry_area
  pub bytes : length s ≤ entry_area
  pub end : entry_offset k p n ≡ p + entries_start + length s

pub sizes : {b : List ℕ} {k p n : ℕ} {s : List ℕ} → Within b k p n → length s ≡ n * (k + 4) → Sizes b k p n s
unfolding entry_offset
sizes {b} {k} {p} {n} {s} w e =
    let c = capacity-small k in
    record { inside = w.page; few = omega (arith, w.count); bytes = omega (arith, entries_fit k n w.count); end = omega arith }

-- a byte string of n entries and no more
encode-whole : (k n : ℕ) (s : List ℕ) → length s ≡ n * (k + 4) → encode (items k n s) ≡ s
encode-whole k n s e = encode-items k n s (omega arith) ∙ take_all (n * (k + 4)) s (omega arith)

pub with_entries_by : (s : List ℕ) {b l1 l2 l3 : List ℕ} {k p n o : ℕ} → Within b k p n → length s ≡ n * (k + 4) → l1 ≡ with_count b p n
    → l2 ≡ put l1 (p + entries_start) s → o ≡ entry_offset k p n → l3 ≡ put l2 o (replicate (p + page_size - o) 0)
    → l3 ≡ with_entries b p (items k n s)
unfolding with_entries area
with_entries_by s {b} {l1} {l2} {l3} {k} {p} {n} {o} w e e1 e2 eo e3 =
    let z = sizes w e in
    let f : o ≡ p + entries_start + length s = eo ∙ z.end in
    let r : p + page_size - o ≡ entry_area - length s = omega (arith, f, z.bytes) in
    e3 ∙ rw (r, f, e2, e1, length-items k n s, encode-whole k n s e)
    (sym (put_append (with_count b p n) (p + entries_start) s (replicate (entry_area - length s) 0)))

-- a page written whole, as the stores of its head and its entries
new-page-stores : (b : List ℕ) (p a l r : ℕ) (es : List Item)
    → new_page b p a l r es ≡ put (with_right (with_left (with_count (with_attribute b p a) p (length es)) p l) p r) (p + entries_start) (area es)
unfolding new_page
new-page-stores b p a l r es =
    let n4 : p + 2 + 2 ≡ p + 4 = omega arith in
    let n8 : p + 4 + 4 ≡ p + 8 = omega arith in
    let n12 : p + 8 + 4 ≡ p + 12 = omega arith in
    rw (
      put_append b p (to_le16 a),
      length-to_le16 a,
      put_append (put b p (to_le16 a)) (p + 2) (to_le16 (length es)),
      length-to_le16 (length es),
      n4,
      put_append _ (p + 4) (to_le32 l),
      length-to_le32 l,
      n8,
      put_append _ (p + 8) (to_le32 r),
      length-to_le32 r,
      n12,
    )

pub new-page_by : (b : List ℕ) (p a l r : ℕ) (es : List Item) {l1 l2 l3 l4 : List ℕ}
    → l1 ≡ with_attribute b p a → l2 ≡ with_left l1 p l → l3 ≡ with_right l2 p r → l4 ≡ with_entries l3 p es → l4 ≡ new_page b p a l r es
unfolding with_entries
new-page_by b p a l r es {l1} {l2} {l3} {l4} e1 e2 e3 e4 =
    let n = to_le16 (length es) in
    let c : put l3 (p + 2) n ≡ put (put (put l1 (p + 2) n) (p + 4) (to_le32 l)) (p + 8) (to_le32 r) =
    rw (e3, e2)
    (sym (ap (λ (x : List ℕ). put x (p + 8) (to_le32 r)) (put_comm l1 (p + 2) n (p + 4) (to_le32 l) (omega (arith, length-to_le16 (length es))))
    ∙ put_comm (put l1 (p + 4) (to_le32 l)) (p + 2) n (p + 8) (to_le32 r) (omega (arith, length-to_le16 (length es))))) in
    e4 ∙ rw (c, e1) (sym (new-page-stores b p a l r es))

-- the sizes that a split meets
pub record Halves (b : List ℕ) (k p q n : ℕ) : Type 0 where
  pub inside : p + page_size ≤ length b
  pub low : (n + 1) / 2 ≤ n
  pub lower : Within b k p ((n + 1) / 2)
  pub upper : Within b k q (n - (n + 1) / 2)
  pub few : n ≤ 501

pub halves : {b : List ℕ} {k p q n : ℕ} → Over b k p n → is_page (length b) q ≡ true → Halves b k p q n
halves {b} {k} {p} {q} {n} g new =
    let c = capacity-least k g.key in
    let w = is-page (length b) p g.page in
    let v = is-page (length b) q new in
    record {
      inside = w.high;
      low = omega arith;
      lower = record { key = g.key; count = omega (arith, g.count); page = w.high };
      upper = record { key = g.key; count = omega (arith, g.count); page = v.high };
      few = omega (arith, g.count, capacity-small k);
    }

-- a byte string of n entries, cut after the first m
module _ (k m n : ℕ) (s : List ℕ) (h : m ≤ n) (e : length s ≡ n * (k + 4)) where
  cut : m * (k + 4) ≤ length s
  cut = omega (arith, mul-le-mul_right (k + 4) h)

  pub first-items : items k m (take (m * (k + 4)) s) ≡ take m (items k n s)
  first-items = items_take k m (m * (k + 4)) s (omega arith) ∙ sym (take_items k m n s h)

  pub rest-items : items k (n - m) (drop (m * (k + 4)) s) ≡ drop m (items k n s)
  rest-items = sym (drop_items k m n s h)

  pub first-length : length (take (m * (k + 4)) s) ≡ m * (k + 4)
  first-length = simp length-take (omega (arith, cut))

  pub rest-length : length (drop (m * (k + 4)) s) ≡ (n - m) * (k + 4)
  rest-length =
      let u : m + (n - m) ≡ n = omega arith in
      let a : n * (k + 4) ≡ m * (k + 4) + (n - m) * (k + 4) = sym (ap (λ (x : ℕ). x * (k + 4)) u) ∙ add-mul m (n - m) (k + 4) in
      simp length-drop (omega arith)

-- the stores of a split
pub split_by : (b s : List ℕ) (k p n q : ℕ) {l1 l2 l3 l4 l5 : List ℕ} {a r : ℕ} → a ≡ attribute_at b p → r ≡ right_at b p
    → l1 ≡ with_entries b p (take ((n + 1) / 2) (items k n s)) → l2 ≡ with_attribute l1 p (without_root a) → l3 ≡ with_right l2 p q
    → l4 ≡ link_beyond l3 r q → l5 ≡ new_page l4 q (without_root a) p r (drop ((n + 1) / 2) (items k n s)) → l5 ≡ split_page b p (items k n s) q
unfolding split_page
split_by b s k p n q ea er e1 e2 e3 e4 e5 =
    e5 ∙ rw (e4, e3, e2, e1, ea, er, length-items k n s)
