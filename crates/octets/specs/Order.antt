-- Rules: the order of byte strings, "as unsigned bytes": the first difference decides, and a string is below its extensions.
use Rattle.std.specs.Prelude.{ℕ, List, [], ◌∷◌, Bool, true, false, cond, eqb, ltb}
use Rattle.std.specs.Ordering.{is_lt, is_eq}
use Rattle.std.specs.declared.cmp.Ordering.{Ordering}
use Rattle.std.specs.declared.cmp.Ordering.TheVariants.{Less, Equal, Greater}

-- a is at or below b
unfoldable pub bytes_le : List ℕ → List ℕ → Bool
bytes_le [] b = true
bytes_le (x ∷ a) [] = false
bytes_le (x ∷ a) (y ∷ b) = let rest = bytes_le a b in cond (eqb x y) rest (ltb x y)

-- the order of a to b, by that one test both ways
unfoldable pub ordering : List ℕ → List ℕ → Ordering
ordering a b = cond (bytes_le a b) (cond (bytes_le b a) Equal Less) Greater

-- whether that is below, or equal
abbrev pub is_below : Ordering → Bool
is_below o = is_lt o

abbrev pub is_equal : Ordering → Bool
is_equal o = is_eq o
