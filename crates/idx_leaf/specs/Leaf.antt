-- Rules: the entries of a page, a key with its record number as one of them, and the entry of a leaf that it leads to. Cited by insertion, by removal and by
-- refusals 29, 30 and 33.
use Rattle.std.specs.Prelude.{ℕ, not, List, [], length, get_or}
use Rattle.octets.specs.Bytes.{to_be32}
use Rattle.tree.specs.Position.{position}
use Rattle.idx_page.specs.Header.{features}
use Rattle.idx_page.specs.Reading.{Item, items_at}
use Rattle.idx_page.specs.EntryOrder.{item_order}

-- the entries of the page at p of the buffer
abbrev pub items_in : ℕ → List ℕ → ℕ → List Item
items_in k b p = items_at k (length b) b p

-- entry i; without bytes if there is no such entry
abbrev pub item_of : ℕ → List Item → Item
item_of i es = get_or es i ([], [])

-- a key with its record number, as an entry stores them
abbrev pub stored : List ℕ → ℕ → Item
stored key number = (key, to_be32 number)

-- the number of the entry of a leaf that the entry e leads to: the first at or above it, by the order of the header's features, else the last
abbrev pub place_in : List ℕ → Item → List Item → ℕ
place_in b e es = position (λ x y. not (item_order (features b) e x)) es
