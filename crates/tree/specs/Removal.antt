-- Steps: removal of an entry from a tree, and the pages that become free by it. Cited by the laws that say what the bytes after a removal are read as. "The
-- entry goes; keys above stay"; "an emptied page other than the root is unlinked from its neighbours and its parent's entry goes, upwards as needed".
use Rattle.std.specs.Prelude.{List, [], ◌∷◌, ◌++◌, ℕ, zero, suc}
use Rattle.tree.specs.Position.{position}
use Rattle.tree.specs.Keeping.{Route}
use Rattle.tree.specs.Tree.{Page, Entry, Tree, pairs, pages}

-- a list in which what g makes of member number i replaces that member
abbrev pub replace_by : {A : Type 0} → ℕ → (A → List A) → List A → List A
replace_by i g [] = []
replace_by zero g (x ∷ xs) = g x ++ xs
replace_by (suc i) g (x ∷ xs) = x ∷ replace_by i g xs

-- the numbers that f gives for member number i, none if there is no such member
abbrev pub numbers_at : {A : Type 0} → ℕ → (A → List ℕ) → List A → List ℕ
numbers_at i f [] = []
numbers_at zero f (x ∷ xs) = f x
numbers_at (suc i) f (x ∷ xs) = numbers_at i f xs

-- what a parent keeps of its page p, under the key a, if the page is left with the entries xs: "its parent's entry goes" with an emptied page
abbrev pub unless_emptied : {K C : Type 0} → K → ℕ → List (K × C) → List (K × Page K C)
unless_emptied a p [] = []
unless_emptied a p (x ∷ xs) = (a, (p, x ∷ xs)) ∷ []

-- the page p, if it is left with no entry
abbrev pub if_emptied : {A : Type 0} → ℕ → List A → List ℕ
if_emptied p [] = p ∷ []
if_emptied p (x ∷ xs) = []

-- a tree of some height, its leaf pairs and its pages
abbrev pub Shrunk : Type 0 → Type 0
Shrunk K = (h : ℕ) × Tree K h

abbrev pub shrunk_pairs : {K : Type 0} → Shrunk K → List (K × ℕ)
shrunk_pairs t = pairs t.0 t.1

abbrev pub shrunk_pages : {K : Type 0} → Shrunk K → List ℕ
shrunk_pages t = pages t.0 t.1

-- the root p that is left with the entries xs: "if nothing is left, the root page itself becomes an empty leaf"
abbrev pub settle : {K : Type 0} → (h p : ℕ) → List (Entry K h) → Shrunk K
settle h p [] = (0, (p, []))
settle h p (x ∷ xs) = (h, (p, x ∷ xs))

module _ {K : Type 0} (route : Route K) where
  -- what replaces an entry after the removal under it: "the entry goes" from the leaf; "keys above stay"
  abbrev pub remove_under : (h : ℕ) → Entry K h → List (Entry K h)
  remove_under zero x = []
  remove_under (suc h) x = unless_emptied x.0 x.1.0 (replace_by (position (route h) x.1.1) (remove_under h) x.1.1)

  -- removal among the entries of a page, and from a tree
  abbrev pub remove_entries : (h : ℕ) → List (Entry K h) → List (Entry K h)
  remove_entries h xs = replace_by (position (route h) xs) (remove_under h) xs

  abbrev pub remove : (h : ℕ) → Tree K h → Shrunk K
  remove h t = settle h t.0 (remove_entries h t.1)

  -- the pages that are emptied, "leaf first": under an entry, among the entries of a page, and of a tree, whose root stays
  abbrev pub emptied_under : (h : ℕ) → Entry K h → List ℕ
  emptied_under zero x = []
  emptied_under (suc h) x =
      numbers_at (position (route h) x.1.1) (emptied_under h) x.1.1 ++ if_emptied x.1.0 (remove_entries h x.1.1)

  abbrev pub emptied_among : (h : ℕ) → List (Entry K h) → List ℕ
  emptied_among h xs = numbers_at (position (route h) xs) (emptied_under h) xs

  abbrev pub emptied : (h : ℕ) → Tree K h → List ℕ
  emptied h t = emptied_among h t.1
