-- Steps: the reader's states, "taken one character after another, the running state handed on". ScanLaws.antt shows that they end in what the text
-- means, so a reader need not believe these definitions.
use Rattle.std.specs.Prelude.{ℕ, ◌+◌, ◌*◌, ◌-◌, ◌^◌, Bool, true, false, cond, ◌&&◌, ◌||◌, not, List, [], ◌∷◌, eqb, leb, ltb, Err, None, Ok, Some}
use Rattle.octets.specs.Text.{blank, zero_digit, is_digit}
use Rattle.numeral.specs.Format.{max_digits, comma, minus, point}
use Rattle.numeral.specs.Reading.{signed}
use Rattle.numeral.specs.Format.{Number}
use Rattle.numeral_scan.specs.declared.Reader.{Reader}
use Rattle.numeral_scan.specs.declared.Phase.{Phase}
use Rattle.numeral_scan.specs.declared.Phase.TheVariants as phase

-- before the first character
abbrev pub initial : ℕ → Reader
initial d = record { decimals = d; phase = phase.Blank; negative = false; value = 0 }

-- the phase after the character c, which makes the text refused
abbrev pub refused_at : ℕ → Phase
refused_at c = cond (eqb comma c) phase.Comma phase.Bad

-- the phase after the first digit c of the whole part
abbrev pub first_digit : ℕ → Phase
first_digit c = cond (eqb c zero_digit) phase.Zero phase.Whole

-- the character c is the point of a text with d decimals, which has one "where decimals d > 0"
abbrev pub is_point : ℕ → ℕ → Bool
is_point d c = eqb c point && leb 1 d

-- the phase after the character c behind the whole part, in a field of d decimals
abbrev pub whole_end : ℕ → ℕ → Phase
whole_end d c = cond (is_point d c) (phase.Fraction d) (refused_at c)

-- the phase after the character c, no digit, at which the whole part should begin, in a field of d decimals
abbrev pub whole_start : ℕ → ℕ → Phase
whole_start d c = cond (is_point d c) (phase.Dropped d) (refused_at c)

-- the phase after a digit behind the point, if `left` digits were to come
abbrev pub next_place : ℕ → Phase
next_place left = cond (leb 1 left) (phase.Fraction (left - 1)) phase.Bad

-- the phase after a zero behind a point without a whole part, if `left` digits were to come
abbrev pub next_zero : ℕ → Phase
next_zero left = cond (leb 1 left) (phase.Dropped (left - 1)) phase.Bad

-- the number n of the digits so far with the digit c behind them; a number of more than 18 digits stays, so that nothing overflows
unfoldable pub next_value : ℕ → ℕ → ℕ
next_value n c = cond (ltb n (10 ^ max_digits)) (10 * n + (c - zero_digit)) n

-- the state r in the phase p
abbrev pub in_phase : Reader → Phase → Reader
in_phase r p = record { decimals = r.decimals; phase = p; negative = r.negative; value = r.value }

-- the state r in the phase p, with the digit c behind the others
abbrev pub with_digit : Reader → Phase → ℕ → Reader
with_digit r p c = record { decimals = r.decimals; phase = p; negative = r.negative; value = next_value r.value c }

-- the state r after the character c: in the phase p with one digit more if c is a digit, otherwise in the phase q
abbrev pub by_digit : Reader → ℕ → Phase → Phase → Reader
by_digit r c p q = cond (is_digit c) (with_digit r p c) (in_phase r q)

-- the state r after the character c, if the sign was taken before it, or there is none
abbrev pub after_sign : Reader → ℕ → Reader
after_sign r c = by_digit r c (first_digit c) (whole_start r.decimals c)

-- the state r after the character c, if only blanks were taken before it: a blank leaves it among the blanks
abbrev pub after_blanks : Reader → ℕ → Reader
after_blanks r c =
    cond (eqb blank c) (in_phase r phase.Blank)
    (cond (eqb c minus) (record { decimals = r.decimals; phase = phase.Minus; negative = true; value = r.value })
    (after_sign r c))

-- the state r after the character c, if digits of the whole part were taken before it, the first no zero
abbrev pub after_whole : Reader → ℕ → Reader
after_whole r c = by_digit r c phase.Whole (whole_end r.decimals c)

-- the state r after the character c, if the point was taken before it and `left` digits are to come
abbrev pub after_point : Reader → ℕ → ℕ → Reader
after_point r left c = by_digit r c (next_place left) (refused_at c)

-- the state r after the character c, if the whole part is missing, zeros alone were taken behind the point and `left` digits are to come: a digit that is
-- no zero makes the text one with a fraction like any other
abbrev pub after_dropped : Reader → ℕ → ℕ → Reader
after_dropped r left c = cond (eqb zero_digit c) (in_phase r (next_zero left)) (after_point r left c)

-- the state r, which stands in the phase p, after the character c
abbrev pub step_in : Phase → Reader → ℕ → Reader
step_in phase.Blank r c = after_blanks r c
step_in phase.Minus r c = after_sign r c
step_in phase.Zero r c = in_phase r (whole_end r.decimals c)
step_in phase.Whole r c = after_whole r c
step_in (phase.Fraction left) r c = after_point r left c
step_in (phase.Dropped left) r c = after_dropped r left c
step_in phase.Comma r c = in_phase r phase.Comma
step_in phase.Bad r c = in_phase r (refused_at c)

unfoldable pub step : Reader → ℕ → Reader
step r c = step_in r.phase r c

-- the state after the characters of a text
unfoldable pub scan : Reader → List ℕ → Reader
scan r [] = r
scan r (c ∷ s) = scan (step r c) s

-- what a text with the number n means, with a minus or without: 17 if it is not complete or is minus zero, 18 if it has more than 18 digits
unfoldable pub settled : Bool → Bool → ℕ → Number
settled complete negative n =
    cond (not complete || negative && eqb n 0) (Err 17)
    (cond (ltb n (10 ^ max_digits)) (Ok (Some (signed negative n))) (Err 18))

-- what a text means if it ends in a state
abbrev pub ended : Phase → Reader → Number
ended phase.Blank r = Ok None
ended phase.Minus r = Err 17
ended phase.Zero r = settled (eqb r.decimals 0) r.negative r.value
ended phase.Whole r = settled (eqb r.decimals 0) r.negative r.value
ended (phase.Fraction left) r = settled (eqb left 0) r.negative r.value
ended (phase.Dropped left) r = Err 17
ended phase.Comma r = Err 16
ended phase.Bad r = Err 17

unfoldable pub meaning : Reader → Number
meaning r = ended r.phase r
