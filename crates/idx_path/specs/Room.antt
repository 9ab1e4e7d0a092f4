-- Rules: the path of a pair: whether its leaf has the pair, the new pages and levels that an insertion needs, and refusal 30. Cited by insertion, for 29 and
-- 30.
use Rattle.std.specs.Prelude.{ℕ, zero, suc, ◌+◌, Bool, false, cond, ◌||◌, ◌&&◌, List, length, eqb, leb, ltb}
use Rattle.tree.specs.Pairs.{present}
use Rattle.idx_page.specs.Header.{max_bytes, max_levels, is_page, root_offset, features}
use Rattle.idx_page.specs.Page.{attribute_at, leaf_bit, capacity}
use Rattle.idx_page.specs.Reading.{Item}
use Rattle.idx_page.specs.EntryOrder.{item_order}
use Rattle.idx_leaf.specs.Leaf.{items_in, stored}
use Rattle.idx_route.specs.Route.{chosen_at, child_of}
use Rattle.idx_supply.specs.Supply.{supply_of, supply_after}
use Rattle.idx_path.specs.declared.Path.{Path}

-- a path goes from a page down to a leaf: `levels` pages, of which `run` are full "in an unbroken run from the leaf up"; `present` says whether the leaf has
-- the pair, for features 1 the key. A path from what is no page has no levels
abbrev pub nowhere : Path
nowhere = record { levels = 0; run = 0; present = false }

-- a path with one page more on top: a full page joins a run that has all levels under it
abbrev pub on_top : Bool → Path → Path
on_top full path = record {
  levels = path.levels + 1;
  run = cond (full && eqb path.run path.levels) (path.run + 1) path.run;
  present = path.present;
}

-- the path of the entry e from the page at p on, with the levels left falling from 15; `nowhere` if p is no page, which does not occur in a sound index
unfoldable pub path_from : ℕ → ℕ → List ℕ → Item → ℕ → Path
path_from k zero b e p = nowhere
path_from k (suc left) b e p =
    let es = items_in k b p in
    let full = leb (capacity k) (length es) in
    let leaf = on_top full (record { levels = 0; run = 0; present = present (item_order (features b)) e es }) in
    let upper = on_top full (path_from k left b e (child_of (chosen_at b e es) es)) in
    cond (is_page (length b) p) (cond (leaf_bit (attribute_at b p)) leaf upper) nowhere

-- the path of a key with its record number, from the root on
abbrev pub path_to : ℕ → List ℕ → List ℕ → ℕ → Path
path_to k b key number = path_from k max_levels b (stored key number) (root_offset b)

-- "and one more if the run has the root": a page more, and a level more
abbrev pub root_split : Path → ℕ
root_split path = cond (eqb path.run path.levels) 1 0

-- new pages: "One is needed for each full page in an unbroken run from the leaf up, and one more if the run has the root. 30 is given exactly when F would
-- pass the buffer or 16,777,216, or levels would pass 15": F is the file's end after these pages were taken from the supply
unfoldable pub no_room : List ℕ → Path → Bool
no_room b path =
    let size = (supply_after (path.run + root_split path) b (supply_of b)).end.0 in
    ltb (length b) size || (ltb max_bytes size || ltb max_levels (path.levels + root_split path))
