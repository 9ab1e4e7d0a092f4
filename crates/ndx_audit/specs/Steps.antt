-- Steps: the walk of a leaf and of a branch, entry after entry by number, as code makes it: the extra child has no key above it. Only inner contracts cite it.
use Rattle.std.specs.Prelude.{ℕ, zero, suc, ◌+◌, Bool, List}
use Rattle.std.proofs.Math.Option.{some}
use Rattle.ndx_page.specs.Header.{page_count}
use Rattle.ndx_page.specs.Page.{record_at, key_at}
use Rattle.ndx_sound.specs.AuditTest.{page_fits}
use Rattle.ndx_sound.specs.Reading.{Key, entries_at}
use Rattle.ndx_sound.specs.Walk.{Status, if_good, item, passed, enter, walk}
use Rattle.ndx_sound.specs.TreeLaws.{by_top}

abbrev pub Walker : Type 0
Walker = Status Key → Status Key

-- by the keys and the numbers beside them
module _ (keys : ℕ → List ℕ) (numbers : ℕ → ℕ) where
  -- n pairs from pair i on
  unfoldable pub items_from : ℕ → ℕ → Walker
  items_from zero i s = s
  items_from (suc n) i s = if_good (λ t. items_from n (i + 1) t) (item by_top (some (keys i), numbers i) s)

  -- n children with keys from child i on, and one more
  unfoldable pub children_from : (ℕ → Walker) → ℕ → ℕ → Walker
  children_from f zero i s = f (numbers i) s
  children_from f (suc n) i s = if_good (λ t. children_from f n (i + 1) t) (passed by_top (f (numbers i) s) (some (keys i)))

-- the rule's steps on an index b: a pair of a leaf, all pairs of a leaf, and the key above a child
module _ (b : List ℕ) where
  abbrev pub pair_step : ℕ → ℕ → Walker
  pair_step p i s = item by_top (some (key_at b p i), record_at b p i) s

  abbrev pub pairs_step : ℕ → ℕ → Walker
  pairs_step p count s = items_from (key_at b p) (record_at b p) count 0 s

  abbrev pub pass_step : ℕ → ℕ → Walker
  pass_step p i s = passed by_top s (some (key_at b p i))

  -- a page is entered, and walked
  abbrev pub entering : Bool → ℕ → ℕ → Walker
  entering lone h p s = enter by_top (page_count b) (entries_at b) (page_fits b) lone h p s

  abbrev pub walking : Bool → ℕ → ℕ → Walker
  walking lone h p s = walk by_top (page_count b) (entries_at b) (page_fits b) lone h p s
