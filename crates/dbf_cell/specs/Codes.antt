-- Rules: the number of each answer about a field: 0 for a value, 256 for an empty field, or document 01's refusal number; and the refusal of a numeric text.
use Rattle.std.specs.Prelude.{ℕ, Err, None, Ok, Some}
use Rattle.calendar.specs.DateText.{DateAnswer}
use Rattle.numeral.specs.Format.{Number}
use Rattle.dbf_cell.specs.Cell.{Logical}
use Rattle.dbf_cell.specs.Cell.{TextAnswer}
use Rattle.dbf_cell.specs.declared.TextPlace.TheVariants as text

abbrev pub accepted_code : ℕ
accepted_code = 0

abbrev pub empty_code : ℕ
empty_code = 256

unfoldable pub number_code : Number → ℕ
number_code (Ok (Some v)) = accepted_code
number_code (Ok None) = empty_code
number_code (Err n) = n

-- what a numeric text is refused by: a value is no refusal, and blanks are none
unfoldable pub number_refusal : Number → ℕ
number_refusal (Ok (Some v)) = 0
number_refusal (Ok None) = 0
number_refusal (Err n) = n

unfoldable pub date_code : DateAnswer → ℕ
date_code (Ok (Some d)) = accepted_code
date_code (Ok None) = empty_code
date_code (Err n) = n

unfoldable pub logical_code : Logical → ℕ
logical_code (Ok (Some v)) = accepted_code
logical_code (Ok None) = empty_code
logical_code (Err n) = n

unfoldable pub text_code : TextAnswer → ℕ
text_code (Ok (Some (text.Table place))) = accepted_code
text_code (Ok (Some (text.Memo place))) = accepted_code
text_code (Ok None) = empty_code
text_code (Err n) = n
