-- Laws: what a good page says, where its entries lie, and the search in a page, entry after entry. Cited by the proofs of lookup, audit and insertion.
-- Assumes nothing.
use Rattle.std.specs.Prelude.{ℕ, zero, suc, ◌+◌, ◌-◌, ◌*◌, ◌≤◌, ◌<◌, ◌≡◌, Bool, true, false, not, ◌||◌, List, length, eqb, leb}
use Rattle.std.proofs.Math.Path.{refl}
use Rattle.std.specs.Bool.{beq}
use Rattle.std.proofs.Common.{mul-le-mul_right, div-mul-le_self, zero-mul, suc-mul, le_trans, div-le_self, add-one, arith, leb-true}
use Rattle.basis.specs.Tests.{either, both}
use Rattle.octets.specs.Order.{bytes_le}
use Rattle.idx_page.specs.Header.{max_key, page_size, is_page}
use Rattle.idx_page.specs.Page.{attribute_at, count_at, entries_start, entry_area, capacity, entry_offset, root_bit, leaf_bit}
use Rattle.idx_page.specs.Page.{attribute_good, count_good, page_good, first_at_or_above}
use Rattle.idx_page.specs.Within.{Within}
use Rattle.idx_page.specs.HeaderLaws.{is-page}

-- a page that lookup may visit
record GoodPage (b : List ℕ) (k size p : ℕ) (first last : Bool) : Type 0 where
  page : is_page size p ≡ true
  attribute : attribute_at b p ≤ 3
  root : beq (root_bit (attribute_at b p)) first ≡ true
  leaf : (leaf_bit (attribute_at b p) || not last) ≡ true
  full : count_at b p ≤ capacity k
  some : (leb 1 (count_at b p) || eqb (attribute_at b p) 3) ≡ true

good-page : (b : List ℕ) (k size p : ℕ) (first last : Bool) → page_good b k size p first last ≡ true → GoodPage b k size p first last
unfolding page_good attribute_good count_good
good-page b k size p first last e =
    let t = both _ _ e in
    let u = both _ _ t.1 in
    let a = both _ _ u.0 in
    let r = both _ _ a.1 in
    let n = both _ _ u.1 in
    record { page = t.0; attribute = leb-true _ _ a.0; root = r.0; leaf = r.1; full = leb-true _ _ n.0; some = n.1 }

-- entries up to the capacity fit into the page: the one fact about products
pub entries_fit : (k n : ℕ) → n ≤ capacity k → n * (k + 4) ≤ entry_area
unfolding capacity
entries_fit k n h = le_trans (mul-le-mul_right (k + 4) h) (div-mul-le_self entry_area (k + 4))

-- entries up to the capacity end within the page
pub entries-inside : (k p n : ℕ) → n ≤ capacity k → entry_offset k p n ≤ p + page_size
unfolding entry_offset
entries-inside k p n h = omega (arith, entries_fit k n h)

-- entry 0 begins where the entries start
pub entry_first : (k p : ℕ) → entry_offset k p 0 ≡ p + entries_start
unfolding entry_offset
entry_first k p = omega (arith, zero-mul (k + 4))

-- entry i ends where entry i + 1 begins
pub entry_next : (k p i : ℕ) → entry_offset k p (i + 1) ≡ entry_offset k p i + (k + 4)
unfolding entry_offset
entry_next k p i = rw add-one (omega (arith, suc-mul i (k + 4)))

-- an entry below the capacity lies within the page
pub entry-inside : (k p i : ℕ) → i < capacity k → entry_offset k p i + (k + 4) ≤ p + page_size
entry-inside k p i h = omega (arith, entry_next k p i, entries-inside k p (i + 1) (omega arith))

-- an entry starts past the page's head
pub entry-low : (k p i : ℕ) → p + entries_start ≤ entry_offset k p i
unfolding entry_offset
entry-low k p i = omega arith

pub capacity-small : (k : ℕ) → capacity k ≤ entry_area
unfolding capacity
capacity-small k = div-le_self entry_area (k + 4)

-- the entries of a good page, and each one of them, lie within the page
pub within-page : (b : List ℕ) (k size p : ℕ) (first last : Bool) → k ≤ max_key → size ≤ length b
    → page_good b k size p first last ≡ true → Within b k p (count_at b p)
within-page b k size p first last h l e =
    let g = good-page b k size p first last e in
    let o = is-page size p g.page in
    record { key = h; count = g.full; page = omega arith }

pub within-entry : {b : List ℕ} {k p n : ℕ} (i : ℕ) → Within b k p n → i < n → Within b k p (i + 1)
within-entry i w h = record { key = w.key; count = omega arith; page = w.page }

-- where entry i lies
pub record EntryWithin (b : List ℕ) (k p i : ℕ) : Type 0 where
  pub key : k ≤ max_key
  pub few : i < capacity k
  pub inside : entry_offset k p i + (k + 4) ≤ length b

pub entry-within : {b : List ℕ} {k p i : ℕ} → Within b k p (i + 1) → EntryWithin b k p i
entry-within {b} {k} {p} {i} w =
    let f : i < capacity k = omega arith in
    record { key = w.key; few = f; inside = omega (arith, entry-inside k p i f) }

-- the search goes by the first entry at or above the key, entry after entry
module _ (keys : ℕ → List ℕ) (key : List ℕ) where
  pub first-end : (i : ℕ) → first_at_or_above keys key zero i ≡ i
  unfolding first_at_or_above
  first-end i = refl

  pub first-here : (n i : ℕ) → bytes_le key (keys i) ≡ true → first_at_or_above keys key (suc n) i ≡ i
  unfolding first_at_or_above
  first-here n i e = rw (e, first_at_or_above)

  pub first-later : (n i : ℕ) → bytes_le key (keys i) ≡ false → first_at_or_above keys key (suc n) i ≡ first_at_or_above keys key n (i + 1)
  unfolding first_at_or_above
  first-later n i e = rw (e, first_at_or_above)

  pub first_bound : (n i : ℕ) → first_at_or_above keys key n i ≤ i + n
  first_bound zero i = omega (arith, first-end i)
  first_bound (suc n) i = either (bytes_le key (keys i))
      (λ e. omega (arith, first-here n i e))
      (λ e. omega (arith, first-later n i e, first_bound n (i + 1)))

-- the search by a loop over n entries that has come to entry i
module _ (keys : ℕ → List ℕ) (key : List ℕ) (n i : ℕ) where
  pub loop_end : n ≤ i → first_at_or_above keys key (n - i) i ≡ i
  loop_end h = let z : n - i ≡ 0 = omega arith in rw z (first-end keys key i)

  pub loop_here : i < n → bytes_le key (keys i) ≡ true → first_at_or_above keys key (n - i) i ≡ i
  loop_here h e = let s : n - i ≡ suc (n - (i + 1)) = omega arith in rw s (first-here keys key (n - (i + 1)) i e)

  pub loop_later : i < n → bytes_le key (keys i) ≡ false → first_at_or_above keys key (n - i) i ≡ first_at_or_above keys key (n - (i + 1)) (i + 1)
  loop_later h e = let s : n - i ≡ suc (n - (i + 1)) = omega arith in rw s (first-later keys key (n - (i + 1)) i e)
