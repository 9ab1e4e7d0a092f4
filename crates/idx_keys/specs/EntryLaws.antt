-- Laws: the entries of a page by number, and its last key and pair. Cited by the proofs of the functions on entries. Assumes nothing.
use Rattle.std.specs.Prelude.{ℕ, zero, suc, ◌+◌, ◌-◌, ◌≤◌, ◌<◌, ◌≡◌, refl, List, [], ◌∷◌, length}
use Rattle.std.proofs.Common.{sym, arith}
use Rattle.std.proofs.Math.Option.{Option, none, some}
use Rattle.idx_page.specs.Page.{key_at, number_at}
use Rattle.idx_page.specs.Reading.{entries_at}
use Rattle.idx_page.specs.Reading.{entries_from}
use Rattle.idx_page.proofs.ReadingLaws.{entries_are, each_within}
use Rattle.idx_sound.specs.AuditTest.{first_of, last_of, last_pair}
use Rattle.idx_keys.specs.Places.{InFile, EntriesWithin}

-- the n entries that are read of a page lie within it
pub entries-within : (b : List ℕ) (k size p n : ℕ) → n ≡ length (entries_at k size b p) → InFile b k size → EntriesWithin b k p n
entries-within b k size p n en f = record { each = each_within b k size p n en f.key f.within }

-- the entries from entry i on
pub from_on : (b : List ℕ) (k p n i : ℕ) → i < n
    → entries_from b k p (n - i) i ≡ (key_at b k p i, number_at b k p i) ∷ entries_from b k p (n - (i + 1)) (i + 1)
unfolding entries_from
from_on b k p n i h = let s : n - i ≡ suc (n - (i + 1)) = omega arith in rw s

pub from_end : (b : List ℕ) (k p n i : ℕ) → n ≤ i → entries_from b k p (n - i) i ≡ []
unfolding entries_from
from_end b k p n i h = let z : n - i ≡ 0 = omega arith in rw z

-- the last key of a page
last-from : (b : List ℕ) (k p m i : ℕ) (o : Option (List ℕ)) → last_of o (entries_from b k p (suc m) i) ≡ some (key_at b k p (i + m))
unfolding entries_from
last-from b k p zero i o = let e : i + 0 ≡ i = omega arith in rw e
last-from b k p (suc m) i o = let e : i + 1 + m ≡ i + suc m = omega arith in rw (← e) (last-from b k p m (i + 1) (some (key_at b k p i)))

-- the last pair of a page
last_pair_from : (b : List ℕ) (k p m i : ℕ) (o : Option (List ℕ × ℕ)) →
    last_pair o (entries_from b k p (suc m) i) ≡ some (key_at b k p (i + m), number_at b k p (i + m))
unfolding entries_from
last_pair_from b k p zero i o = let e : i + 0 ≡ i = omega arith in rw e
last_pair_from b k p (suc m) i o =
    let e : i + 1 + m ≡ i + suc m = omega arith in rw (← e) (last_pair_from b k p m (i + 1) (some (key_at b k p i, number_at b k p i)))

-- where the first entry of a page begins, and where the last one does
module _ (b : List ℕ) (k size p n : ℕ) (en : n ≡ length (entries_at k size b p)) where
  pub no_entries : n ≡ 0 → entries_at k size b p ≡ []
  unfolding entries_from
  no_entries z = rw (entries_are b k size p n en, z)

  module _ (some-entry : n ≡ 0 → ⊥) where
    counted : n ≡ suc (n - 1)
    counted = omega (arith, some-entry)

    by-number : entries_at k size b p ≡ entries_from b k p (suc (n - 1)) 0
    by-number = rw (← counted) (entries_are b k size p n en)

    pub first-key : some (key_at b k p 0) ≡ first_of (entries_at k size b p)
    unfolding entries_from
    first-key = rw (by-number) refl

    pub last-key : some (key_at b k p (n - 1)) ≡ last_of none (entries_at k size b p)
    last-key = let i : 0 + (n - 1) ≡ n - 1 = omega arith in rw by-number (rw i at (sym (last-from b k p (n - 1) 0 none)))

    pub last-pair : some (key_at b k p (n - 1), number_at b k p (n - 1)) ≡ last_pair none (entries_at k size b p)
    last-pair = let i : 0 + (n - 1) ≡ n - 1 = omega arith in rw by-number (rw i at (sym (last_pair_from b k p (n - 1) 0 none)))
