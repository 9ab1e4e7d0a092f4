-- Rules: which entry of a page above the leaves a pair goes under, by the header's features, and its child. Cited by insertion, by removal and by refusals
-- 29, 30 and 33.
use Rattle.std.specs.Prelude.{ℕ, zero, suc, Bool, cond, List, length}
use Rattle.octets.specs.Bytes.{be32}
use Rattle.octets.specs.Order.{bytes_le}
use Rattle.tree.specs.Position.{Passes, position, passes_lower}
use Rattle.tree.specs.Tree.{first_among}
use Rattle.idx_page.specs.Header.{max_levels, features}
use Rattle.idx_page.specs.Page.{attribute_at, leaf_bit}
use Rattle.idx_page.specs.KeyOrder.{bytes_order}
use Rattle.idx_page.specs.Reading.{Item}
use Rattle.idx_page.specs.EntryOrder.{item_order}
use Rattle.idx_leaf.specs.Leaf.{item_of, items_in}

-- the first leaf pair under the entry x of a page above the leaves is at or below the entry e: down by first entries, with the levels left falling from 15. If
-- a page on the way has no entry, which does not occur in a sound index, the key above it decides
unfoldable pub first_up_to : ℕ → List ℕ → Item → Item → Bool
first_up_to zero b e x = bytes_le x.0 e.0
first_up_to (suc left) b e x =
    let c = be32 x.1 0 in
    let under : Item → Bool = λ y. cond (leaf_bit (attribute_at b c)) (item_order 0 y e) (first_up_to left b e y) in
    first_among under (bytes_le x.0 e.0) (items_in (length e.0) b c)

-- a new entry e passes the entry x of a page above the leaves and goes on to the next one, y, by a header's features. For 0 it "goes into the leaf with the
-- greatest pair below it, or the first leaf" (K12): it passes x if the first leaf pair under y is at or below it; else it passes the entries with lower keys
abbrev pub passes_above : ℕ → List ℕ → Item → Passes Item
passes_above zero b e x y = first_up_to max_levels b e y
passes_above (suc n) b e x y = passes_lower bytes_order e x y

-- the number of the entry of a page above the leaves that the entry e goes under: for features 1 "the first entry at or above the key, else the last" (K1)
abbrev pub chosen_at : List ℕ → Item → List Item → ℕ
chosen_at b e es = position (passes_above (features b) b e) es

-- the number of entry i as a page's offset; 0, which is no page's, if there is no such entry
abbrev pub child_of : ℕ → List Item → ℕ
child_of i es = be32 (item_of i es).1 0
