-- Rules: the width and the decimal count of a numeric field, and the characters of its text. Cited by `format_good`, the table's checks, `read_number` and
-- `write_number`.
use Rattle.std.specs.Prelude.{ℕ, ◌+◌, Bool, ◌&&◌, ◌||◌, eqb, leb, ℤ, Result, Option}

-- what a numeric text means: a value in units of 10 to the −d, nothing, or a refusal's number
abbrev pub Number : Type 0
Number = Result (Option ℤ) ℕ

-- "N 1-20"
abbrev pub max_width : ℕ
max_width = 20

-- "1 to 15"
abbrev pub max_decimals : ℕ
max_decimals = 15

-- "At most 18 digits in all"
abbrev pub max_digits : ℕ
max_digits = 18

-- "N 1-20 ... Decimals: N has 0, or 1 to 15 and at most length less 2"; else 6
unfoldable pub format_good : ℕ → ℕ → Bool
format_good width decimals =
    leb 1 width && leb width max_width
    && (eqb decimals 0 || leb 1 decimals && leb decimals max_decimals && leb (decimals + 2) width)

-- the characters of numeric text beside blanks and digits, and the comma, which it may not have
abbrev pub comma : ℕ
comma = 0x2C

abbrev pub minus : ℕ
minus = 0x2D

abbrev pub point : ℕ
point = 0x2E
