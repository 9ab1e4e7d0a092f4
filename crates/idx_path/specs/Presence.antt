-- Rules: whether an index has a pair, or, if keys are distinct, a key: the leaf at the end of its path has it. Cited by removal, for refusal 33.
use Rattle.std.specs.Prelude.{ℕ, zero, suc, Bool, false, cond, List, length}
use Rattle.tree.specs.Pairs.{present}
use Rattle.idx_page.specs.Header.{max_levels, root_offset, features, is_page}
use Rattle.idx_page.specs.Page.{attribute_at, leaf_bit}
use Rattle.idx_page.specs.Reading.{Item}
use Rattle.idx_page.specs.EntryOrder.{item_order}
use Rattle.idx_leaf.specs.Leaf.{items_in, stored}
use Rattle.idx_route.specs.Route.{chosen_at, child_of}

-- the leaf that the route of the entry e leads to from the page at p has e, with the levels left falling from 15: by the order of the header's features, so for
-- features 1 "it goes by the key, and a record named isn't looked at"
unfoldable pub there_from : ℕ → ℕ → List ℕ → Item → ℕ → Bool
there_from k zero b e p = false
there_from k (suc left) b e p =
    let es = items_in k b p in
    let below = there_from k left b e (child_of (chosen_at b e es) es) in
    cond (is_page (length b) p) (cond (leaf_bit (attribute_at b p)) (present (item_order (features b)) e es) below) false

-- a key with its record number has a path from the root to a leaf that has the pair
abbrev pub is_there : ℕ → List ℕ → List ℕ → ℕ → Bool
is_there k b key number = there_from k max_levels b (stored key number) (root_offset b)
