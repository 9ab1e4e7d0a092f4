-- Rules: what the calls that read a field or a numeric text hand to C. The write of a number hands its rule's buffer and number (`refusal/After.coded`).
use Rattle.std.specs.Prelude.{ℕ, Bool, true, false, ℤ, Err, None, Ok, Some}
use Rattle.calendar.specs.declared.Date.{Date}
use Rattle.calendar.specs.DateText.{DateAnswer}
use Rattle.numeral.specs.Format.{Number}
use Rattle.dbf_cell.specs.Codes.{number_code, date_code, logical_code, text_code}
use Rattle.dbf_cell.specs.Cell.{Logical}
use Rattle.dbf_cell.specs.Cell.{TextAnswer}
use Rattle.dbf_cell.specs.declared.TextPlace.TheVariants as text
use Rattle.handed.specs.Out.{Out, out}

-- ---- one field of one record: "256 for an empty field"

abbrev pub number_held : Number → ℤ → ℤ
number_held (Ok (Some v)) old = v
number_held (Ok None) old = old
number_held (Err n) old = old

unfoldable pub number_out : Number → ℤ → Out ℤ
number_out answer old = out (number_code answer) (number_held answer old)

-- year, month and day
abbrev pub day_of : ℕ → ℕ → ℕ → Date
day_of year month day = record { year = year; month = month; day = day }

abbrev pub date_held : DateAnswer → Date → Date
date_held (Ok (Some d)) old = d
date_held (Ok None) old = old
date_held (Err n) old = old

unfoldable pub date_out : DateAnswer → Date → Out Date
date_out answer old = out (date_code answer) (date_held answer old)

-- 1 for T, 0 for F
abbrev pub logical_number : Bool → ℕ
logical_number true = 1
logical_number false = 0

abbrev pub logical_held : Logical → ℕ → ℕ
logical_held (Ok (Some v)) old = logical_number v
logical_held (Ok None) old = old
logical_held (Err n) old = old

unfoldable pub logical_out : Logical → ℕ → Out ℕ
logical_out answer old = out (logical_code answer) (logical_held answer old)

-- "A C field's part of the table, or an M field's part of the memo file: where it starts and how long it is"
pub record Part : Type 0 where
  pub start : ℕ
  pub size : ℕ

abbrev pub part : ℕ → ℕ → Part
part start size = record { start = start; size = size }

abbrev pub text_held : TextAnswer → Part → Part
text_held (Ok (Some (text.Table place))) old = part place.start place.len
text_held (Ok (Some (text.Memo place))) old = part place.start place.len
text_held (Ok None) old = old
text_held (Err n) old = old

unfoldable pub text_out : TextAnswer → Part → Out Part
text_out answer old = out (text_code answer) (text_held answer old)
