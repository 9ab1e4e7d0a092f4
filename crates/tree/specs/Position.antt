-- Rules: the entry of a page that an insertion goes through, by its number. Cited by insertion and by the rule for refusal 30.
use Rattle.std.specs.Prelude.{Bool, cond, not, List, [], ◌∷◌, ◌++◌, ℕ, suc, get_or, take, drop}
use Rattle.tree.specs.Order.{Order}

-- a test on an entry of a page and the next one: an insertion passes the entry and goes on to the next
abbrev pub Passes : Type 0 → Type 0
Passes A = A → A → Bool

-- the number of the entry gone through: an insertion goes on to the next entry as long as the test passes an entry, and stops at the last
abbrev pub position : {A : Type 0} → Passes A → List A → ℕ
position passes [] = 0
position passes (x ∷ []) = 0
position passes (x ∷ y ∷ ys) = cond (passes x y) (suc (position passes (y ∷ ys))) 0

-- "the first entry at or above the key, else the last": an insertion of e passes an entry whose key is below e's, and the next entry is not looked at
abbrev pub passes_lower : {K C D : Type 0} → Order K → K × D → Passes (K × C)
passes_lower O e x y = not (O.le e.0 x.0)

-- the entry gone through; d if there is no entry
abbrev pub choose : {A : Type 0} → Passes A → A → List A → A
choose passes d xs = get_or xs (position passes xs) d

-- entries with others in the place of the one with number i
abbrev pub replace_at : {A : Type 0} → ℕ → List A → List A → List A
replace_at i new xs = take i xs ++ (new ++ drop (suc i) xs)
