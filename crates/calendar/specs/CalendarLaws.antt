-- Laws: leap years, month lengths and dates. Assumes nothing.
use Rattle.std.specs.Prelude.{ℕ, zero, suc, ◌+◌, ◌-◌, ◌≤◌, ◌<◌, ◌≡◌, refl, List, [], ◌∷◌, Bool, true, false, cond, ◌&&◌, length, get_or, leb}
use Rattle.std.proofs.Common.{arith, le_of_suc-le-suc, not-suc-le-zero, rules, leb-true}
use mir.Val.{bool_byte}
use Rattle.basis.specs.Tests.{both}
use Rattle.basis.specs.Lists.{All}
use Rattle.calendar.specs.Calendar.{is_leap, month_lengths, row_of, days_in_month, is_date}

-- a year's row is 0 or 1
pub row_below : (year : ℕ) → row_of year < 2
unfolding row_of
row_below year = one_of (is_leap year)
  where
    one_of : (leap : Bool) → cond leap 1 0 < 2
    one_of true = omega arith
    one_of false = omega arith

-- the flag of a leap year, as an index, is the year's row
pub flag_row : (leap : Bool) (year : ℕ) → leap ≡ is_leap year → bool_byte leap ≡ row_of year
unfolding row_of
flag_row true year is = rw (← is)
flag_row false year is = rw (← is)

-- what holds of all members holds of the member at index i
all-at : {A : Type 0} (P : A → Type 0) (xs : List A) (d : A) → All P xs → (i : ℕ) → i < length xs → P (get_or xs i d)
all-at P [] d ps i h = absurd (not-suc-le-zero h)
all-at P (x ∷ xs) d ps zero h = ps.0
all-at P (x ∷ xs) d ps (suc i) h = all-at P xs d ps.1 i (le_of_suc-le-suc h)

-- every row has twelve lengths, of 28 to 31 days each
abbrev MonthDays : ℕ → Type 0
MonthDays n = (28 ≤ n) × (n ≤ 31)

abbrev YearRow : List ℕ → Type 0
YearRow row = (length row ≡ 12) × All MonthDays row

rows_hold : All YearRow month_lengths
unfolding month_lengths
rows_hold = ((refl, search rules), ((refl, search rules), tt))

rows : length month_lengths ≡ 2
unfolding month_lengths
rows = refl

-- a month of any year has 28 to 31 days
pub month_days : (year month : ℕ) → 1 ≤ month → month ≤ 12 → (28 ≤ days_in_month year month) × (days_in_month year month ≤ 31)
unfolding days_in_month
month_days year month low high =
    let row = all-at YearRow month_lengths [] rows_hold (row_of year) (rw rows (row_below year)) in
    all-at MonthDays (get_or month_lengths (row_of year) []) 0 row.1 (month - 1) (rw row.0 (omega arith))

-- the days of a year's months, January to December
unfoldable pub sum : List ℕ → ℕ
sum [] = 0
sum (x ∷ xs) = x + sum xs

unfoldable pub days_in_year : ℕ → ℕ
days_in_year year = sum (get_or month_lengths (row_of year) [])

-- a leap year has 366 days, a common year 365
pub leap_days : (year : ℕ) → is_leap year ≡ true → days_in_year year ≡ 366
unfolding days_in_year sum month_lengths row_of
leap_days year leap = rw leap

pub common_days : (year : ℕ) → is_leap year ≡ false → days_in_year year ≡ 365
unfolding days_in_year sum month_lengths row_of
common_days year common = rw common

-- a date's month is 1 to 12, its day 1 to the month's length, and so 1 to 31
pub record DateRange (year month day : ℕ) : Type 0 where
  pub month_from : 1 ≤ month
  pub month_to : month ≤ 12
  pub day_from : 1 ≤ day
  pub day_to : day ≤ days_in_month year month
  pub day_31 : day ≤ 31

pub date-range : (year month day : ℕ) → is_date year month day ≡ true → DateRange year month day
unfolding is_date
date-range year month day date =
    let last = both (leb 1 month && leb month 12 && leb 1 day) (leb day (days_in_month year month)) date in
    let third = both (leb 1 month && leb month 12) (leb 1 day) last.0 in
    let months = both (leb 1 month) (leb month 12) third.0 in
    let from = leb-true _ _ months.0 in
    let to = leb-true _ _ months.1 in
    let within = leb-true _ _ last.1 in
    record {
      month_from = from;
      month_to = to;
      day_from = leb-true _ _ third.1;
      day_to = within;
      day_31 = omega (arith, month_days year month from to);
    }
