-- Rules: the characters of a text: blanks on its left, digits, the number that digits stand for, and the digits of a number. Numeric text, dates, memo numbers
-- and the argument FIELD cite them.
use Rattle.std.specs.Prelude.{ℕ, zero, suc, ◌+◌, ◌*◌, ◌-◌, ◌/◌, ◌%◌, Bool, true, false, cond, ◌&&◌, List, [], ◌∷◌, ◌++◌, eqb, leb, ltb, None, Some, Option}

-- every character passes a test
unfoldable pub every : (ℕ → Bool) → List ℕ → Bool
every p [] = true
every p (c ∷ s) = p c && every p s

-- a blank; a text is all blanks by `every (eqb blank)`
abbrev pub blank : ℕ
blank = 0x20

-- a text without the blanks on its left
unfoldable pub unpadded : List ℕ → List ℕ
unpadded [] = []
unpadded (c ∷ s) = let tail = unpadded s in cond (eqb blank c) tail (c ∷ s)

-- a digit, "0-9"
abbrev pub zero_digit : ℕ
zero_digit = 0x30

abbrev pub is_digit : ℕ → Bool
is_digit c = leb zero_digit c && leb c 0x39

-- the number that the digits s stand for behind digits that stand for n
unfoldable pub number_from : ℕ → List ℕ → ℕ
number_from n [] = n
number_from n (c ∷ s) = number_from (10 * n + (c - zero_digit)) s

unfoldable pub number_of : List ℕ → ℕ
number_of s = number_from 0 s

-- what a text says that should be digits: the number that they stand for, or that it has another character
unfoldable pub digits_of : List ℕ → Option ℕ
digits_of s = cond (every is_digit s) (Some (number_of s)) None

-- the last count decimal digits of n
unfoldable pub last_digits : ℕ → ℕ → List ℕ
last_digits zero n = []
last_digits (suc count) n = last_digits count (n / 10) ++ ((zero_digit + n % 10) ∷ [])

-- the decimal digits of n "without needless leading zero", at most the last fuel + 1 of them; n is fuel enough for all
unfoldable pub decimal_from : ℕ → ℕ → List ℕ
decimal_from zero n = (zero_digit + n % 10) ∷ []
decimal_from (suc fuel) n =
    let rest = decimal_from fuel (n / 10) in
    elim (ltb n 10) [ true ↦ (zero_digit + n) ∷ [] | false ↦ rest ++ ((zero_digit + n % 10) ∷ []) ]

unfoldable pub decimal : ℕ → List ℕ
decimal n = decimal_from n n
