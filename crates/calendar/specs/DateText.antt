-- Rules: the text of a D field, "YYYYMMDD, year 1 to 9999, or eight blanks"; "Blanks are empty". Cited by `read_date`. Assumes nothing.
use Rattle.std.specs.Prelude.{ℕ, List, Bool, cond, ◌&&◌, length, take, drop, leb, eqb, Err, None, Ok, Some, Result, Option}
use Rattle.octets.specs.Text.{every, blank, is_digit, number_of}
use Rattle.calendar.specs.Calendar.{is_date}
use Rattle.calendar.specs.declared.Date.{Date}

-- what the text of a D field says: a date, nothing, or a refusal's number
abbrev pub DateAnswer : Type 0
DateAnswer = Result (Option Date) ℕ

-- the refusal "bad date or logical text"
abbrev pub bad_date_text : ℕ
bad_date_text = 20

-- the greatest year of a D field
abbrev pub max_year : ℕ
max_year = 9999

-- the parts of YYYYMMDD
abbrev pub year_part : List ℕ → List ℕ
year_part text = take 4 text

abbrev pub month_part : List ℕ → List ℕ
month_part text = take 2 (drop 4 text)

abbrev pub day_part : List ℕ → List ℕ
day_part text = take 2 (drop 6 text)

-- "year 1 to 9999" and a real day
unfoldable pub is_field_date : ℕ → ℕ → ℕ → Bool
is_field_date year month day = leb 1 year && leb year max_year && is_date year month day

-- the answer for eight digits whose parts are the numbers y, m and d
unfoldable pub date_of_numbers : ℕ → ℕ → ℕ → DateAnswer
date_of_numbers y m d =
    cond (is_field_date y m d) (Ok (Some (record { year = y; month = m; day = d }))) (Err bad_date_text)

-- Eight blanks are empty; eight digits YYYYMMDD of a date are that date; all else is refused. A text of another length is refused too: document 01 does
-- not speak of one, since the table's checks make a D field eight bytes long.
unfoldable pub date_of : List ℕ → DateAnswer
date_of text =
    cond (eqb (length text) 8)
    (cond (every (eqb blank) text) (Ok None)
    (cond (every is_digit text)
    (date_of_numbers (number_of (year_part text)) (number_of (month_part text)) (number_of (day_part text)))
    (Err bad_date_text)))
    (Err bad_date_text)
