-- Steps: removal, page by page on a store. The laws compare the rule on bytes with these, and these with the steps on trees.
use Rattle.std.specs.Prelude.{List, [], ◌∷◌, ◌++◌, map, ℕ, zero, suc}
use Rattle.std.proofs.Math.Option.{Option, none, some}
use Rattle.tree.specs.Position.{position}
use Rattle.tree.specs.Keeping.{Route}
use Rattle.tree.specs.Removal.{replace_by, if_emptied, Shrunk}
use Rattle.tree.specs.Store.{Store, read_entry, read_tree}
use Rattle.tree.specs.Store.Steps.{write}

-- what replaces an entry after a removal under it, the pages emptied, leaf first, and the store
abbrev pub StoreRemoved : Type 0 → Type 0
StoreRemoved K = List (K × ℕ) × List ℕ × Store K

-- member number i of a list, if there is one
abbrev pub member_at : {A : Type 0} → ℕ → List A → Option A
member_at i [] = none
member_at zero (x ∷ xs) = some x
member_at (suc i) (x ∷ xs) = member_at i xs

-- what a parent keeps of its entry over page p, under the key a, if the page is left with the entries es
abbrev pub entry_unless_emptied : {K : Type 0} → K → ℕ → List (K × ℕ) → List (K × ℕ)
entry_unless_emptied a p [] = []
entry_unless_emptied a p (x ∷ xs) = (a, p) ∷ []

-- page p gets the entries that it is left with: none, if it is emptied
abbrev pub store_keep : {K : Type 0} → K → ℕ → StoreRemoved K → StoreRemoved K
store_keep a p w = (entry_unless_emptied a p w.0, w.1 ++ if_emptied p w.0, write w.2 p w.0)

-- the levels under a root that had h and is left with some entries: none, if it is left with no entry
abbrev pub height_left : {A : Type 0} → ℕ → List A → ℕ
height_left h [] = 0
height_left h (x ∷ xs) = h

-- the root after a removal: the levels under it, its number, the pages emptied and the store
abbrev pub StoreShrunk : Type 0 → Type 0
StoreShrunk K = ℕ × ℕ × List ℕ × Store K

abbrev pub store_settle : {K : Type 0} → (h p : ℕ) → StoreRemoved K → StoreShrunk K
store_settle h p w = (height_left h w.0, p, w.1, write w.2 p w.0)

abbrev pub read_shrunk : {K : Type 0} → StoreShrunk K → Shrunk K
read_shrunk g = (g.0, read_tree g.3 g.0 g.1)

-- entry number i of the entries es is replaced by what the removal under it leaves; if there is no such entry, nothing changes
abbrev pub store_replace_at : {K : Type 0} → ℕ → (K × ℕ → StoreRemoved K) → List (K × ℕ) → Store K → Option (K × ℕ) → StoreRemoved K
store_replace_at i g es S none = (es, [], S)
store_replace_at i g es S (some e) = (replace_by i (λ y. (g e).0) es, (g e).1, (g e).2)

module _ {K : Type 0} (route : Route K) where
  -- the number of the entry gone through, by what the entries are read as in the store before the removal
  abbrev pub store_position : (h : ℕ) → Store K → List (K × ℕ) → ℕ
  store_position h S es = position (route h) (map (read_entry S h) es)

  -- removal among the entries of a page, whose children g takes care of
  abbrev pub store_remove_among : (h : ℕ) → (K × ℕ → StoreRemoved K) → List (K × ℕ) → Store K → StoreRemoved K
  store_remove_among h g es S = let i : ℕ = store_position h S es in store_replace_at i g es S (member_at i es)

  -- removal under an entry, and from the whole store
  abbrev pub store_remove_under : (h : ℕ) → K × ℕ → Store K → StoreRemoved K
  store_remove_under zero e S = ([], [], S)
  store_remove_under (suc h) e S = store_keep e.0 e.1 (store_remove_among h (λ c. store_remove_under h c S) (S e.1) S)

  abbrev pub store_remove : (h p : ℕ) → Store K → StoreShrunk K
  store_remove h p S = store_settle h p (store_remove_among h (λ c. store_remove_under h c S) (S p) S)
