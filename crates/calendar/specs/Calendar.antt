-- Rules: the Gregorian calendar, "real days by the Gregorian rule, the month lengths held as two rows, common years and leap years".
-- Cited by `is_date`, by the table's update date (year 1900 + byte 1) and by the text of a D field. Assumes nothing.
use Rattle.std.specs.Prelude.{ℕ, ◌%◌, ◌-◌, List, [], ◌∷◌, Bool, cond, not, ◌&&◌, ◌||◌, get_or, leb, eqb}

-- a leap year is divisible by 4, but by 100 only if by 400
unfoldable pub is_leap : ℕ → Bool
is_leap year = eqb (year % 4) 0 && (not (eqb (year % 100) 0) || eqb (year % 400) 0)

-- the two rows: January to December in common years, then in leap years
unfoldable pub month_lengths : List (List ℕ)
month_lengths =
    (31 ∷ 28 ∷ 31 ∷ 30 ∷ 31 ∷ 30 ∷ 31 ∷ 31 ∷ 30 ∷ 31 ∷ 30 ∷ 31 ∷ [])
    ∷ (31 ∷ 29 ∷ 31 ∷ 30 ∷ 31 ∷ 30 ∷ 31 ∷ 31 ∷ 30 ∷ 31 ∷ 30 ∷ 31 ∷ []) ∷ []

-- a year's row: 0 or 1
unfoldable pub row_of : ℕ → ℕ
row_of year = cond (is_leap year) 1 0

-- the days of a month, 1 to 12
unfoldable pub days_in_month : ℕ → ℕ → ℕ
days_in_month year month = get_or (get_or month_lengths (row_of year) []) (month - 1) 0

-- a month 1 to 12 and a day 1 to the month's length; any year
unfoldable pub is_date : ℕ → ℕ → ℕ → Bool
is_date year month day = leb 1 month && leb month 12 && leb 1 day && leb day (days_in_month year month)
