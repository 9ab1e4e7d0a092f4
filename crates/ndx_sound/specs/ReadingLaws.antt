-- Laws: the entries of a page, how many there are, and that the search in a page is the theory's search in the list of its entries. Assumes nothing.
use Prim.Native.Nat.{ℕ, zero, suc, ◌+◌, ◌≤◌, ◌<◌}
use Rattle.std.specs.Prelude.{◌≡◌, true, false, List, ◌++◌, length}
use Rattle.std.proofs.Math.Path.{refl}
use Rattle.std.proofs.Math.Option.{some}
use Rattle.std.proofs.Math.Nat.{min-eq_left}
use native.Mathlib.Omega.{arith}
use Rattle.basis.specs.Lists.{All}
use Rattle.basis.specs.Tests.{either}
use Rattle.octets.specs.Order.{bytes_le}
use Rattle.tree.specs.Pairs.{seek}
use Rattle.tree.proofs.Top.{top, keyed}
use Rattle.idx_page.specs.Page.{first_at_or_above}
use Rattle.idx_page.specs.PageLaws.{first-end, first-here, first-later}
use Rattle.idx_page.specs.KeyOrder.{bytes_order}
use Rattle.ndx_page.specs.Header.{page_count, keys_per_page, is_page}
use Rattle.ndx_page.specs.Page.{count_at, is_leaf}
use Rattle.ndx_sound.specs.Reading.{Entries, entries_from, leaf_entries, branch_entries, entries_at, bare}

module _ (keys : ℕ → List ℕ) (numbers : ℕ → ℕ) where
  pub length_from : (n i : ℕ) (rest : Entries) → length (entries_from keys numbers n i ++ rest) ≡ n + length rest
  unfolding entries_from
  length_from zero i rest = omega arith
  length_from (suc n) i rest = let ih = length_from n (i + 1) rest in omega arith

  -- each has a key
  pub from-keyed : (n i : ℕ) → All (λ e. keyed bytes_order (bare e) ≡ e) (entries_from keys numbers n i)
  unfolding entries_from
  from-keyed zero i = tt
  from-keyed (suc n) i = (refl, from-keyed n (i + 1))

  -- the search among n entries from entry i on, with others after them
  module _ (key : List ℕ) where
    pub first-le : (n i : ℕ) → first_at_or_above keys key n i < i + n → bytes_le key (keys (first_at_or_above keys key n i)) ≡ true
    first-le zero i h = let f = first-end keys key i in absurd (omega arith)
    first-le (suc n) i h = either (bytes_le key (keys i))
        (λ e. rw (first-here keys key n i e) e)
        (λ e. let f = first-later keys key n i e in rw f (first-le n (i + 1) (omega arith)))

    pub seek_among : (n i : ℕ) (rest : Entries) → first_at_or_above keys key n i < i + n
        → seek (top bytes_order) (some key) (entries_from keys numbers n i ++ rest) ≡ some (
          some (keys (first_at_or_above keys key n i)),
          numbers
              (first_at_or_above keys key n i),
        )
    unfolding entries_from
    seek_among zero i rest h = let f = first-end keys key i in absurd (omega arith)
    seek_among (suc n) i rest h = either (bytes_le key (keys i))
        (λ e. rw (e, first-here keys key n i e))
        (λ e. let f = first-later keys key n i e in rw (e, f) (seek_among n (i + 1) rest (omega arith)))

    pub seek_past : (n i : ℕ) (rest : Entries) → first_at_or_above keys key n i ≡ i + n
        → seek (top bytes_order) (some key) (entries_from keys numbers n i ++ rest) ≡ seek (top bytes_order) (some key) rest
    unfolding entries_from
    seek_past zero i rest h = refl
    seek_past (suc n) i rest h = either (bytes_le key (keys i))
        (λ e. let f = first-here keys key n i e in absurd (omega arith))
        (λ e. let f = first-later keys key n i e in rw e (seek_past n (i + 1) rest (omega arith)))

-- a page's entries, by its count where that is good
module _ (b : List ℕ) (p : ℕ) (page : is_page (page_count b) p ≡ true) (full : count_at b p ≤ keys_per_page b) where
  pub leaf-entries : is_leaf b p ≡ true → entries_at b p ≡ leaf_entries b p (count_at b p)
  unfolding entries_at
  leaf-entries l = rw (page, l, min-eq_left full)

  pub branch-entries : is_leaf b p ≡ false → entries_at b p ≡ branch_entries b p (count_at b p)
  unfolding entries_at
  branch-entries l = rw (page, l, min-eq_left full)
