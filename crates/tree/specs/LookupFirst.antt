-- Rules: lookup of a key's first record in a tree whose keys may repeat (features 0), and the pages that it visits; and lookup by the keeping of an index.
-- Cited by the calls of an index.
use Rattle.std.specs.Prelude.{cond, List, [], ◌∷◌, ℕ, zero, suc}
use Rattle.std.proofs.Math.Option.{Option, none, some}
use Rattle.tree.specs.Order.{Order}
use Rattle.tree.specs.Keeping.{Keeping}
use Rattle.tree.specs.Pairs.{seek, if_equal, find, get}
use Rattle.tree.specs.Tree.{Page, Entry, Tree, first_among, lookup, visited}

-- what a lookup comes to: the record, if there is one, and the pages that it goes to
abbrev pub Trip : Type 0
Trip = Option ℕ × List ℕ

-- the same with one page before the others
abbrev pub visit : ℕ → Trip → Trip
visit p g = (g.0, p ∷ g.1)

-- the first leaf under an entry; if a page on the way down has no entry, that page as a leaf without entries
abbrev pub first_leaf : {K : Type 0} (h : ℕ) → Entry K (suc h) → Page K ℕ
first_leaf zero x = x.1
first_leaf (suc h) x = first_among (first_leaf h) (x.1.0, []) x.1.1

-- the leaf to the right of what is under an entry, if xs are the entries after it on its page: the first leaf under these, else `o`
abbrev pub leaf_after : {K C : Type 0} → (K × C → Page K ℕ) → Option (Page K ℕ) → List (K × C) → Option (Page K ℕ)
leaf_after leaf o [] = o
leaf_after leaf o (y ∷ ys) = some (leaf y)

module _ {K : Type 0} (O : Order K) where
  -- "the right neighbour, whose first entry decides (none: absent)"
  abbrev pub neighbour : K → Option (Page K ℕ) → Trip
  neighbour k none = (none, [])
  neighbour k (some q) = (first_among (λ x. get O k (x ∷ [])) none q.1, q.0 ∷ [])

  -- in a leaf, given the first entry at or above the key: that decides, or "from a leaf" it goes to the right neighbour
  abbrev pub in_leaf : K → Option (Page K ℕ) → Option (K × ℕ) → Trip
  in_leaf k o (some x) = (if_equal O k x, [])
  in_leaf k o none = neighbour k o

  -- by the first entry at or above the key, else "down the last one"
  abbrev pub down_first : {C : Type 0} → K → (Option (Page K ℕ) → K × C → Trip) → (K × C → Page K ℕ) → Option (Page K ℕ) → K × C →
      List (K × C) → Trip
  down_first k f leaf o x [] = f o x
  down_first k f leaf o x (y ∷ ys) = cond (O.le k x.0) (f (some (leaf y)) x) (down_first k f leaf o y ys)

  abbrev pub down_among : {C : Type 0} → K → (Option (Page K ℕ) → K × C → Trip) → (K × C → Page K ℕ) → Option (Page K ℕ) →
      List (K × C) → Trip
  down_among k f leaf o [] = (none, [])
  down_among k f leaf o (x ∷ xs) = down_first k f leaf o x xs

  -- from the page under an entry on; `o` is the leaf to the right of all that is under the entry
  abbrev pub first_record_under : K → (h : ℕ) → Option (Page K ℕ) → Entry K (suc h) → Trip
  first_record_under k zero o x = visit x.1.0 (in_leaf k o (seek O k x.1.1))
  first_record_under k (suc h) o x = visit x.1.0 (down_among k (first_record_under k h) (first_leaf h) o x.1.1)

  -- from the root, on which a key above all entries is absent
  abbrev pub down_from_root : {C : Type 0} → K → (Option (Page K ℕ) → K × C → Trip) → (K × C → Page K ℕ) → List (K × C) → Trip
  down_from_root k f leaf [] = (none, [])
  down_from_root k f leaf (x ∷ xs) = cond (O.le k x.0) (f (leaf_after leaf none xs) x) (down_from_root k f leaf xs)

  abbrev pub first_record : K → (h : ℕ) → Tree K h → Trip
  first_record k zero t = visit t.0 (find O k t.1, [])
  first_record k (suc h) t = visit t.0 (down_from_root k (first_record_under k h) (first_leaf h) t.1)

-- lookup, and the pages that it visits, by the keeping
abbrev pub lookup_by : {K : Type 0} → Keeping K → K → (h : ℕ) → Tree K h → Option ℕ
lookup_by Q k h t = cond Q.goes_on (first_record Q.order k h t).0 (lookup Q.order k h t)

abbrev pub visited_by : {K : Type 0} → Keeping K → K → (h : ℕ) → Tree K h → List ℕ
visited_by Q k h t = cond Q.goes_on (first_record Q.order k h t).1 (visited Q.order k h t)
