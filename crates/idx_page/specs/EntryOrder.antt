-- Rules: the order of stored entries by a header's features, by their keys, or for features 0 by key, then record number; and the route of a new entry. For the
-- rules of insertion and removal.
use Rattle.std.specs.Prelude.{ℕ, Bool, List}
use Rattle.tree.specs.Position.{Passes}
use Rattle.tree.specs.Keeping.{pair_order}
use Rattle.tree.specs.Store.{Store}
use Rattle.tree.specs.Store.Route.{store_route}
use Rattle.idx_page.specs.KeyOrder.{bytes_order}
use Rattle.idx_page.specs.Reading.{Item, numbered}

-- an entry is at or below another
abbrev pub item_order : ℕ → Item → Item → Bool
item_order f x y = pair_order bytes_order f (numbered x) (numbered y)

-- a new entry e passes the entry x of a page with h levels under it and goes on to the next one, y, in the store S: for features 0 if the first leaf pair under
-- y is at or below e's, else by the keys
abbrev pub item_route : ℕ → Item → Store (List ℕ) → (h : ℕ) → Passes Item
item_route f e S h x y = store_route bytes_order f (numbered e) S h (numbered x) (numbered y)
