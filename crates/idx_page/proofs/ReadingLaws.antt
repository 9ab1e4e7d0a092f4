-- Laws: a page's entries by number, how many there are, where they lie, and that they depend on the page's own bytes alone. Cited by the laws of sound indexes,
-- by the audit, the match and insertion. Assumes nothing.
use Rattle.std.specs.Prelude.{ℕ, zero, suc, ◌+◌, ◌-◌, ◌*◌, ◌≤◌, ◌<◌, min, ◌≡◌, refl, true, false, List, [], ◌∷◌, map, length, take, drop}
use Rattle.std.proofs.Math.Path.{sym, ap}
use Rattle.std.proofs.Common.{◌∙◌, add-zero, suc-mul, arith, lit≤, take-take, drop-drop}
use Rattle.std.proofs.Math.Nat.{sub-zero, min-le_right, min-eq_left, min-eq_right}
use Rattle.std.proofs.lemmas.List.{length-map}
use Rattle.std.proofs.Math.Seq.{take-nil}
use Rattle.basis.specs.Tests.{either}
use Rattle.octets.specs.Store.{window}
use Rattle.octets.specs.NumberLaws.{be32-window, le16-same, le32-same}
use Rattle.idx_page.specs.Header.{max_key, page_size, no_page, is_page}
use Rattle.idx_page.specs.HeaderLaws.{is-page}
use Rattle.idx_page.specs.Page.{attribute_at, count_at, left_at, right_at, entries_start, entry_area, capacity, entry_offset, number_at}
use Rattle.idx_page.specs.Within.{Within}
use Rattle.idx_page.specs.Reading.{items, items_at, numbered, entries_at, entries_from}
use Rattle.idx_page.specs.Children.{first_child}
use Rattle.idx_page.specs.PageLaws.{entries_fit, entry_first, entry_next}

drop_take : (i m : ℕ) (xs : List ℕ) → drop i (take m xs) ≡ take (m - i) (drop i xs)
drop_take zero m xs = rw sub-zero
drop_take (suc i) zero xs = let z : 0 - suc i ≡ 0 = omega arith in rw z
drop_take (suc i) (suc m) [] = sym (take-nil (suc m - suc i))
drop_take (suc i) (suc m) (x ∷ xs) = let e : suc m - suc i ≡ m - i = omega arith in rw e (drop_take i m xs)

-- a part of a part
pub window-window : (b : List ℕ) (p n i m : ℕ) → i + m ≤ n → window (window b p n) i m ≡ window b (p + i) m
unfolding window
window-window b p n i m h = rw (drop_take i n (drop p b), take-take m (n - i) (drop i (drop p b)) (omega arith), drop-drop)

-- the entries of a part are those of the whole, if they end within the part
pub items_take : (k n m : ℕ) (xs : List ℕ) → n * (k + 4) ≤ m → items k n (take m xs) ≡ items k n xs
unfolding items
items_take k zero m xs h = refl
items_take k (suc n) m xs h =
    let f : n * (k + 4) + (k + 4) ≤ m = omega (arith, suc-mul n (k + 4)) in
    rw (
      take-take k m xs (omega arith),
      drop_take k m xs,
      take-take 4 (m - k) (drop k xs) (omega arith),
      drop_take (k + 4) m xs,
      items_take k n (m - (k + 4)) (drop (k + 4) xs) (omega arith),
    )

-- entries read from the place where entry i begins
items-from : (b : List ℕ) (k p n i : ℕ) → map numbered (items k n (drop (entry_offset k p i) b)) ≡ entries_from b k p n i
unfolding items entries_from window
items-from b k p zero i = refl
items-from b k p (suc n) i =
    let at = entry_offset k p i in
    rw (drop-drop k at b, be32-window b (at + k), drop-drop (k + 4) at b, ← entry_next k p i, items-from b k p n (i + 1))

-- the number of entries that are read of a page
abbrev pub read_count : ℕ → List ℕ → ℕ → ℕ
read_count k b p = min (count_at b p) (capacity k)

-- a page's entries are those with the numbers below its count, and never more than the capacity
entries_by_index : (k size : ℕ) (b : List ℕ) (p : ℕ) → is_page size p ≡ true → entries_at k size b p ≡ entries_from b k p (read_count k b p) 0
unfolding entries_at items_at window
entries_by_index k size b p e =
    rw (e, items_take k (read_count k b p) entry_area (drop (p + entries_start) b) (entries_fit k (read_count k b p) (min-le_right _ _)), ← entry_first k p)
    (items-from b k p (read_count k b p) 0)

pub entries_by_count : (k size : ℕ) (b : List ℕ) (p : ℕ) → is_page size p ≡ true → count_at b p ≤ capacity k
    → entries_at k size b p ≡ entries_from b k p (count_at b p) 0
entries_by_count k size b p e h = entries_by_index k size b p e ∙ ap (λ (n : ℕ). entries_from b k p n 0) (min-eq_left h)

-- an offset that is no page's has no entries
pub entries_none : (k size : ℕ) (b : List ℕ) (p : ℕ) → is_page size p ≡ false → entries_at k size b p ≡ []
unfolding entries_at items_at
entries_none k size b p e = rw e

pub length-entries-from : (b : List ℕ) (k p n i : ℕ) → length (entries_from b k p n i) ≡ n
unfolding entries_from
length-entries-from b k p zero i = refl
length-entries-from b k p (suc n) i = ap suc (length-entries-from b k p n (i + 1))

pub length-entries : (k size : ℕ) (b : List ℕ) (p : ℕ) → is_page size p ≡ true → length (entries_at k size b p) ≡ read_count k b p
length-entries k size b p e = ap length (entries_by_index k size b p e) ∙ length-entries-from b k p (read_count k b p) 0

-- an entry is read for each one that is stored
pub length-numbered : (k size : ℕ) (b : List ℕ) (p : ℕ) → length (entries_at k size b p) ≡ length (items_at k size b p)
unfolding entries_at
length-numbered k size b p = length-map (items_at k size b p) numbered

-- how many entries are read of a page: none if p is no page's offset, and never more than the capacity
module _ (b : List ℕ) (k size p : ℕ) where
  pub count_none : is_page size p ≡ false → 0 ≡ length (entries_at k size b p)
  count_none e = rw (entries_none k size b p e)

  module _ (e : is_page size p ≡ true) (n : ℕ) (en : n ≡ count_at b p) where
    pub count-read : n ≤ capacity k → n ≡ length (entries_at k size b p)
    count-read h = sym (length-entries k size b p e ∙ rw (← en) (min-eq_left h))

    pub count-full : capacity k < n → capacity k ≡ length (entries_at k size b p)
    count-full h = sym (length-entries k size b p e ∙ rw (← en) (min-eq_right (omega arith)))

-- n is the number of entries that are read of a page
module _ (b : List ℕ) (k size p n : ℕ) (en : n ≡ length (entries_at k size b p)) where
  -- the entries are those with the numbers below n
  pub entries_are : entries_at k size b p ≡ entries_from b k p n 0
  unfolding entries_from
  entries_are = either (is_page size p)
      (λ e. entries_by_index k size b p e ∙ ap (λ (m : ℕ). entries_from b k p m 0) (sym (en ∙ length-entries k size b p e)))
      (λ e. let z : n ≡ 0 = en ∙ sym (count_none b k size p e) in rw z (entries_none k size b p e))

  -- each of them lies within the page, and the page within the buffer
  pub each_within : k ≤ max_key → size ≤ length b → (i : ℕ) → i < n → Within b k p (i + 1)
  each_within key long i h = either (is_page size p)
      (λ e. let o = is-page size p e in
      let m : n ≤ capacity k = rw (en, length-entries k size b p e) (min-le_right _ _) in
      record { key = key; count = omega arith; page = omega arith })
      (λ e. absurd (omega (arith, count_none b k size p e)))

-- the first child of a page with n entries
pub first-none : (b : List ℕ) (k size p n : ℕ) → n ≡ length (entries_at k size b p) → n ≡ 0 → no_page ≡ first_child b k size p
unfolding entries_from
first-none b k size p n en z = rw (entries_are b k size p n en, z)

pub first_some : (b : List ℕ) (k size p n x : ℕ) → n ≡ length (entries_at k size b p) → (n ≡ 0 → ⊥) → x ≡ number_at b k p 0
    → x ≡ first_child b k size p
unfolding entries_from
first_some b k size p zero x en ne ex = absurd (ne refl)
first_some b k size p (suc m) x en ne ex = rw (entries_are b k size p (suc m) en) ex

-- a page is read by its own bytes alone
module _ (a b : List ℕ) (p : ℕ) (e : window a p page_size ≡ window b p page_size) where
  -- a part of the page
  pub window_in_page : (i n : ℕ) → i + n ≤ page_size → window a (p + i) n ≡ window b (p + i) n
  window_in_page i n h = sym (window-window a p page_size i n h) ∙ ap (λ (w : List ℕ). window w i n) e ∙ window-window b p page_size i n h

  pub attribute-same : attribute_at a p ≡ attribute_at b p
  attribute-same = le16-same a b p (rw add-zero at (window_in_page 0 2 (lit≤ tt)))

  pub left-same : left_at a p ≡ left_at b p
  left-same = le32-same a b (p + 4) (window_in_page 4 4 (lit≤ tt))

  pub right-same : right_at a p ≡ right_at b p
  right-same = le32-same a b (p + 8) (window_in_page 8 4 (lit≤ tt))

  pub count_same : count_at a p ≡ count_at b p
  count_same = le16-same a b (p + 2) (window_in_page 2 2 (lit≤ tt))

  items-same : (k size : ℕ) → items_at k size a p ≡ items_at k size b p
  unfolding items_at
  items-same k size = rw (count_same, window_in_page entries_start entry_area (lit≤ tt))

  pub entries-same : (k size : ℕ) → entries_at k size a p ≡ entries_at k size b p
  unfolding entries_at
  entries-same k size = ap (map numbered) (items-same k size)
