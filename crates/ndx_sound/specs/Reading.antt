-- Rules: the one reading of an NDX index's bytes as pages and as a tree, total on any bytes. Cited by what sound means. A page's number is its name.
-- A key of the tree is a key of the file, or none for the extra child of a branch: none is above all keys.
use Rattle.std.specs.Prelude.{ℕ, zero, suc, ◌+◌, min, cond, List, [], ◌∷◌, ◌++◌, map}
use Rattle.std.proofs.Math.Option.{Option, none, some}
use Rattle.tree.specs.Tree.{Tree, pairs}
use Rattle.tree.specs.Store.{read_tree}
use Rattle.ndx_page.specs.Header.{page_count, keys_per_page, root_page, is_page}
use Rattle.ndx_page.specs.Page.{count_at, lower_at, record_at, key_at, is_leaf}

-- the key over an entry: none where there is none
abbrev pub Key : Type 0
Key = Option (List ℕ)

abbrev pub Entries : Type 0
Entries = List (Key × ℕ)

-- n entries from entry i on, by their keys and the numbers beside them
unfoldable pub entries_from : (ℕ → List ℕ) → (ℕ → ℕ) → ℕ → ℕ → Entries
entries_from keys numbers zero i = []
entries_from keys numbers (suc n) i = (some (keys i), numbers i) ∷ entries_from keys numbers n (i + 1)

-- how many entries are read: never more than there is room for
abbrev pub read_count : List ℕ → ℕ → ℕ
read_count b p = min (count_at b p) (keys_per_page b)

-- a leaf's entries are its keys and records; "A branch with n keys has one more lower page after them", and "a branch's record bytes aren't read"
abbrev pub leaf_entries : List ℕ → ℕ → ℕ → Entries
leaf_entries b p n = entries_from (key_at b p) (record_at b p) n 0

abbrev pub branch_entries : List ℕ → ℕ → ℕ → Entries
branch_entries b p n = entries_from (key_at b p) (lower_at b p) n 0 ++ ((none, lower_at b p n) ∷ [])

-- the entries of page p, none where there is no such page
unfoldable pub entries_at : List ℕ → ℕ → Entries
entries_at b p = cond (is_page (page_count b) p) (cond (is_leaf b p) (leaf_entries b p (read_count b p)) (branch_entries b p (read_count b p))) []

-- the bytes as a tree, from the root on, with h levels under it
abbrev pub index_tree : List ℕ → (h : ℕ) → Tree (Option (List ℕ)) h
index_tree b h = read_tree (entries_at b) h (root_page b)

-- a pair as a leaf has it; an entry without a key stands in no leaf
abbrev pub bare : Option (List ℕ) × ℕ → List ℕ × ℕ
bare e = (elim e.0 [ none ↦ [] | some k ↦ k ], e.1)

-- "its leaves' pairs", left to right
abbrev pub leaf_pairs : List ℕ → ℕ → List (List ℕ × ℕ)
leaf_pairs b h = map bare (pairs h (index_tree b h))
