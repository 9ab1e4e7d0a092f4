-- Steps: the audit's test of an NDX index as it is computed. Only the audit's inner functions cite it: that it accepts exactly the sound indexes is proved in
-- Accepted, so that a reader need not believe it.
use Rattle.std.specs.Prelude.{ℕ, zero, suc, ◌+◌, ◌-◌, Bool, true, false, not, ◌&&◌, ◌||◌, List, eqb}
use Rattle.std.specs.Bool.{beq}
use Rattle.std.proofs.Math.Option.{none}
use Rattle.tree.proofs.Top.{top}
use Rattle.idx_page.specs.KeyOrder.{bytes_order}
use Rattle.ndx_page.specs.Header.{max_levels, root_page, page_count, keys_per_page, is_page}
use Rattle.ndx_page.specs.Page.{count_at, lower_at, is_leaf, count_good}
use Rattle.ndx_sound.specs.Reading.{Key, read_count, entries_at}
use Rattle.ndx_sound.specs.Walk.{Status, walk}

-- n numbers from number i on are 0
unfoldable pub zeros : (ℕ → ℕ) → ℕ → ℕ → Bool
zeros numbers zero i = true
zeros numbers (suc n) i = eqb (numbers i) 0 && zeros numbers n (i + 1)

-- page p, a lone root or not, with h levels under it: its number, whether it is a leaf, its count, and that a leaf has no lower pages
unfoldable pub page_fits : List ℕ → Bool → ℕ → ℕ → Bool
page_fits b lone h p =
    is_page (page_count b) p
    && (beq (is_leaf b p) (eqb h 0)
    && (count_good (keys_per_page b) (count_at b p) lone (is_leaf b p) && (not (is_leaf b p) || zeros (lower_at b p) (read_count b p) 0)))

-- the levels under page p, as its first lower pages say, at most so many
unfoldable pub height_from : List ℕ → ℕ → ℕ → ℕ
height_from b zero p = 0
height_from b (suc l) p = elim (is_page (page_count b) p && not (is_leaf b p)) [ true ↦ suc (height_from b l (lower_at b p 0)) | false ↦ 0 ]

abbrev pub index_height : List ℕ → ℕ
index_height b = height_from b (max_levels - 1) (root_page b)

-- all was good so far: no key was met, and no page
abbrev pub start : Status Key
start = record { good = true; last = none; entered = 0 }

-- all was good, and as many pages were entered as there are but for the first
abbrev pub complete : List ℕ → Status Key → Bool
complete b t = t.good && eqb t.entered (page_count b - 1)

-- all pages of an index whose header is good
unfoldable pub tree_good : List ℕ → Bool
tree_good b = complete b (walk (top bytes_order) (page_count b) (entries_at b) (page_fits b) true (index_height b) (root_page b) start)
