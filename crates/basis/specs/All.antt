-- Rules: what it is for all members of a list to have a property. Cited by `idx_sound/Sound` and by the theorem about lists of calls. Assumes nothing.
use Rattle.std.specs.Prelude.{List, [], ◌∷◌}

-- every member of a list has the property P
abbrev pub All : {A : Type 0} → (A → Type 0) → List A → Type 0
All P [] = Unit {0}
All P (x ∷ xs) = P x × All P xs
