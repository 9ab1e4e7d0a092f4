-- Rules: what a numeric text means, with K4's dropped zero. `read_number` is what `read_number` answers, in document 01's order: 6, empty, 16, 17, 18, the
-- value. Cited by `read_number`.
use Rattle.std.specs.Prelude.{ℕ, zero, suc, Bool, true, false, ◌&&◌, ◌||◌, not, cond, List, [], ◌∷◌, ◌++◌, eqb, leb, length, ℤ, pos, neg_ℤ, Err, None, Ok, Some}
use Rattle.refusal.specs.Checks.{unless}
use Rattle.octets.specs.Text.{every, blank, unpadded, zero_digit, is_digit, number_of}
use Rattle.numeral.specs.Format.{format_good, max_digits, comma, minus, point}
use Rattle.numeral.specs.Format.{Number}

-- some character passes the test p
unfoldable pub some : (ℕ → Bool) → List ℕ → Bool
some p [] = false
some p (c ∷ s) = p c || some p s

-- the text without the characters at its front that pass the test p, and those characters
unfoldable pub after : (ℕ → Bool) → List ℕ → List ℕ
after p [] = []
after p (c ∷ s) = elim (p c) [ true ↦ after p s | false ↦ c ∷ s ]

unfoldable pub front : (ℕ → Bool) → List ℕ → List ℕ
front p [] = []
front p (c ∷ s) = elim (p c) [ true ↦ c ∷ front p s | false ↦ [] ]

-- "an optional minus"
unfoldable pub has_minus : List ℕ → Bool
has_minus [] = false
has_minus (c ∷ s) = eqb c minus

unfoldable pub without_minus : List ℕ → List ℕ
without_minus [] = []
without_minus (c ∷ s) = elim (eqb c minus) [ true ↦ s | false ↦ c ∷ s ]

-- "a whole part without needless leading zero": digits, and the first is no zero unless it is the only one
unfoldable pub whole_good : List ℕ → Bool
whole_good [] = false
whole_good (c ∷ s) = every is_digit (c ∷ s) && (not (eqb c zero_digit) || eqb (length s) 0)

-- "where decimals d > 0, a point and exactly d digits; no blank after": what follows the whole part
unfoldable pub fraction_good : ℕ → List ℕ → Bool
fraction_good zero s = eqb (length s) 0
fraction_good (suc d) [] = false
fraction_good (suc d) (c ∷ s) = eqb c point && every is_digit s && eqb (length s) (suc d)

-- the digits of a text without its sign: the whole part's, and those behind the point
unfoldable pub whole_part : List ℕ → List ℕ
whole_part s = front is_digit s

unfoldable pub fraction : List ℕ → List ℕ
fraction s = after is_digit s

unfoldable pub without_point : List ℕ → List ℕ
without_point [] = []
without_point (c ∷ s) = s

unfoldable pub digits : List ℕ → List ℕ
digits s = whole_part s ++ without_point (fraction s)

-- K4, "a missing whole part": a text without its sign begins with no digit
unfoldable pub whole_missing : List ℕ → Bool
whole_missing t = eqb (length (whole_part t)) 0

-- K4, "accepts a missing whole part where d > 0 and at least one digit isn't zero"
unfoldable pub zero_dropped : ℕ → List ℕ → Bool
zero_dropped d t = whole_missing t && leb 1 d && not (every (eqb zero_digit) (digits t))

-- a whole part "without needless leading zero" or, by K4, a missing one
abbrev pub whole_accepted : ℕ → List ℕ → Bool
whole_accepted d t = whole_good (whole_part t) || zero_dropped d t

-- "blanks, an optional minus, a whole part without needless leading zero, and, where decimals d > 0, a point and exactly d digits; no blank after.
-- Minus zero is 17"
unfoldable pub text_good : List ℕ → ℕ → Bool
text_good s d =
    let t = without_minus (unpadded s) in
    whole_accepted d t && fraction_good d (fraction t)
    && not (has_minus (unpadded s) && eqb (number_of (digits t)) 0)

-- a number with its sign
unfoldable pub signed : Bool → ℕ → ℤ
signed false n = pos n
signed true n = neg_ℤ (pos n)

-- "the value in units of 10 to the −d, signed"; K4, "such a whole part is zero": without digits it adds nothing
unfoldable pub value_of : List ℕ → ℤ
value_of s = signed (has_minus (unpadded s)) (number_of (digits (without_minus (unpadded s))))

-- "the digits that 18 counts are those of the whole part and of the fraction together, a lone zero included"; a missing whole part has none
unfoldable pub digit_count : List ℕ → ℕ
digit_count s = length (digits (without_minus (unpadded s)))

-- "Order on reading: 6, 16, 17, 18": the checks of a text that is not blank
unfoldable pub number_checks : List ℕ → ℕ → List (Bool × ℕ)
number_checks s d = (not (some (eqb comma) s), 16) ∷ (text_good s d, 17) ∷ (leb (digit_count s) max_digits, 18) ∷ []

-- what a text means in a field of the text's length, with d decimals: 6 before all else, and then "all blanks is empty"
unfoldable pub read_number : List ℕ → ℕ → Number
read_number s d =
    unless ((format_good (length s) d, 6) ∷ []) Err
    (cond (every (eqb blank) s) (Ok None)
    (unless (number_checks s d) Err (Ok (Some (value_of s)))))
