-- Rules: the one written text of a value, and its accepted texts. `write_number` is what `write_number` answers and leaves in the buffer, in document 01's
-- order: 6, 18, 19. Cited by `write_number`; `TextOf` by demand 2's laws.
use Rattle.std.specs.Prelude.{ℕ, zero, suc, ◌-◌, ◌/◌, ◌^◌, ◌≤◌, ◌<◌, ◌≡◌, Bool, true, List, [], ◌∷◌, ◌++◌, ◌⊎◌, leb, ltb, length, replicate, ℤ, pos, negsuc, nat_abs}
use Rattle.refusal.specs.After.{After, made_unless}
use Rattle.refusal.specs.After.{Change}
use Rattle.octets.specs.Text.{blank, last_digits, decimal}
use Rattle.numeral.specs.Format.{format_good, max_digits, minus, point}

-- "where decimals d > 0, a point and exactly d digits"
unfoldable pub fraction_text : ℕ → ℕ → List ℕ
fraction_text zero n = []
fraction_text (suc d) n = point ∷ last_digits (suc d) n

-- "an optional minus"
unfoldable pub sign_text : ℤ → List ℕ
sign_text (pos n) = []
sign_text (negsuc n) = minus ∷ []

-- the characters of a value in units of 10 to the −d
unfoldable pub number_text : ℕ → ℤ → List ℕ
number_text d v = sign_text v ++ (decimal (nat_abs v / 10 ^ d) ++ fraction_text d (nat_abs v))

-- K4: the characters of a value without the digits before the point. They are read if those digits are a zero and the value is not, and never written
unfoldable pub short_text : ℕ → ℤ → List ℕ
short_text d v = sign_text v ++ fraction_text d (nat_abs v)

-- "that one text, blanks on the left"
unfoldable pub written : ℕ → ℕ → ℤ → List ℕ
written width d v = replicate (width - length (number_text d v)) blank ++ number_text d v

-- "each value that fits": none of the writer's refusals concerns it
pub record Fits (width d : ℕ) (v : ℤ) : Type 0 where
  -- not 6, "a bad width or decimal count"
  pub format : format_good width d ≡ true
  -- not 18, "a value beyond 18 digits"
  pub small : nat_abs v < 10 ^ max_digits
  -- not 19, "value's text longer than the field"
  pub room : length (number_text d v) ≤ width

-- K4: the values that are read from their `short_text`
pub record Short (d : ℕ) (v : ℤ) : Type 0 where
  -- "such a whole part is zero"
  pub whole : nat_abs v / 10 ^ d ≡ 0
  -- "at least one digit isn't zero"
  pub some : 0 < nat_abs v

-- the accepted texts of a value, blanks aside: its written text and, if its whole part is zero and the value isn't, the same without the zero
abbrev pub TextOf : ℕ → ℤ → List ℕ → Type 0
TextOf d v t = (t ≡ number_text d v) ⊎ (Short d v × (t ≡ short_text d v))

-- the writer's "order: 6, 18, 19": the length of the buffer s is the width
unfoldable pub write_checks : List ℕ → ℕ → ℤ → List (Bool × ℕ)
write_checks s d v =
    (format_good (length s) d, 6)
    ∷ (ltb (nat_abs v) (10 ^ max_digits), 18)
    ∷ (leb (length (number_text d v)) (length s), 19)
    ∷ []

-- what a write of v into the buffer s leaves and answers: a refusal leaves s as it was
unfoldable pub write_number : List ℕ → ℕ → ℤ → After Change
write_number s d v = made_unless (write_checks s d v) (written (length s) d v) s
