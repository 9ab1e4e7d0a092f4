-- Rules: the one reading of bytes as pages and as a tree, total on any bytes. Cited by `Sound`, by insertion and by the claim about lists of calls.
-- A page's number in the tree is its offset. The file's size is a parameter, so that a page's reading depends on its own bytes and the size alone.
use Rattle.std.specs.Prelude.{ℕ, zero, suc, ◌+◌, min, cond, List, [], ◌∷◌, map, take, drop}
use Rattle.octets.specs.Bytes.{be32}
use Rattle.octets.specs.Store.{window}
use Rattle.tree.specs.Tree.{Tree}
use Rattle.tree.specs.Store.{read_tree}
use Rattle.idx_page.specs.Header.{is_page, root_offset}
use Rattle.idx_page.specs.Page.{entries_start, entry_area, capacity, count_at, key_at, number_at}

-- an entry as it is stored: its key and the four bytes of its number
abbrev pub Item : Type 0
Item = List ℕ × List ℕ

-- the first n entries, "of k + 4 bytes: key, then" number
unfoldable pub items : ℕ → ℕ → List ℕ → List Item
items k zero xs = []
items k (suc n) xs = (take k xs, take 4 (drop k xs)) ∷ items k n (drop (k + 4) xs)

-- the entries of the page at p, in a file of `size` bytes: none if p is no page's offset, and never more than the capacity
unfoldable pub items_at : ℕ → ℕ → List ℕ → ℕ → List Item
items_at k size b p = cond (is_page size p) (items k (min (count_at b p) (capacity k)) (window b (p + entries_start) entry_area)) []

-- an entry with its number: "most significant first"
abbrev pub numbered : Item → List ℕ × ℕ
numbered e = (e.0, be32 e.1 0)

unfoldable pub entries_at : ℕ → ℕ → List ℕ → ℕ → List (List ℕ × ℕ)
entries_at k size b p = map numbered (items_at k size b p)

-- n entries of the page at p, from entry i on
unfoldable pub entries_from : List ℕ → ℕ → ℕ → ℕ → ℕ → List (List ℕ × ℕ)
entries_from b k p zero i = []
entries_from b k p (suc n) i = (key_at b k p i, number_at b k p i) ∷ entries_from b k p n (i + 1)

-- the bytes as a tree, from the root on, with h levels under it
abbrev pub tree_of : ℕ → ℕ → List ℕ → (h : ℕ) → Tree (List ℕ) h
tree_of k size b h = read_tree (entries_at k size b) h (root_offset b)
