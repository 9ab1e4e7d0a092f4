-- Rules: the program's standard input, document 02, K11: "four lines of 1 to 10 digits, each ended by one line feed, nothing after: barcode field,
-- concentration field, target, final."
use Rattle.std.specs.Prelude.{ℕ, ◌+◌, min, Bool, true, false, cond, ◌&&◌, ◌≡◌, List, [], ◌∷◌, length, drop, eqb, leb, Option, None, Some, Result, Ok, Err}
use Rattle.octets.specs.Bytes.{byte_at}
use Rattle.octets.specs.Text.{is_digit, number_of}
use Rattle.numeral.specs.Reading.{front}
use Rattle.inspect_argument.specs.Arguments.{max_number}
use Rattle.dilute_sheet.specs.declared.input.NumberLine.{NumberLine}
use Rattle.dilute_sheet.specs.declared.input.Request.{Request}

abbrev pub line_feed : ℕ
line_feed = 0x0A

-- the digits that stand from an offset on
abbrev pub digits_at : List ℕ → ℕ → List ℕ
digits_at s at = front is_digit (drop at s)

-- "1 to 10 digits, .. ended by one line feed"
unfoldable pub line_good : List ℕ → ℕ → Bool
line_good s at =
    let count = length (digits_at s at) in
    leb 1 count && leb count 10 && eqb (byte_at s (at + count)) line_feed

-- the line from an offset on, and those before it: whether they are such lines, where it ends, and its number
pub record Line : Type 0 where
  pub good : Bool
  pub end : ℕ
  pub number : ℕ

unfoldable pub no_line : Line
no_line = record { good = false; end = 0; number = 0 }

unfoldable pub line_at : List ℕ → ℕ → Line
line_at s at =
    let digits = digits_at s at in
    cond (line_good s at) (record { good = true; end = at + length digits + 1; number = number_of digits }) no_line

-- a line that code has read, as the rules have it
abbrev pub told : Option NumberLine → Line
told (Some line) = record { good = true; end = line.end; number = line.number }
told None = no_line

-- the line behind another: none if the other is none
unfoldable pub next_line : List ℕ → Line → Line
next_line s before = cond before.good (line_at s before.end) no_line

-- what four lines ask for; no table has a field of the number 2³² − 1 or of a greater one
unfoldable pub request_of : Line → Line → Line → Line → Request
request_of first second third fourth = record {
  barcode_field = min first.number max_number;
  field = min second.number max_number;
  target = third.number;
  final_volume = fourth.number;
}

-- "four lines .., nothing after", "40 alone for other input"
unfoldable pub input_of : List ℕ → Result Request ℕ
input_of s =
    let first = line_at s 0 in
    let second = next_line s first in
    let third = next_line s second in
    let fourth = next_line s third in
    cond (fourth.good && eqb fourth.end (length s)) (Ok (request_of first second third fourth)) (Err 40)

-- ---- the answer as document 02 counts it

-- an input's number: 0 for four numbers, "40 alone for other input"
abbrev pub input_code : Result Request ℕ → ℕ
input_code (Ok request) = 0
input_code (Err n) = n

-- its values, in the paper's order: "barcode field, concentration field, target, final"
abbrev pub request_values : Request → List ℕ
request_values request = request.barcode_field ∷ request.field ∷ request.target ∷ request.final_volume ∷ []

abbrev pub input_values : Result Request ℕ → List ℕ
input_values (Ok request) = request_values request
input_values (Err n) = []

-- whether the last of four lines ends the input, and the numbers of the four
unfoldable pub four_lines : List ℕ → Bool
four_lines s = let fourth = next_line s (next_line s (next_line s (line_at s 0))) in fourth.good && eqb fourth.end (length s)

unfoldable pub four_numbers : List ℕ → List ℕ
four_numbers s =
    let first = line_at s 0 in
    let second = next_line s first in
    let third = next_line s second in
    let fourth = next_line s third in
    min first.number max_number ∷ min second.number max_number ∷ third.number ∷ fourth.number ∷ []

-- what `read_input` answers: the case; 0 with the four numbers, or 40 with none
pub record InputAnswer (s : List ℕ) (r : Result Request ℕ) : Type 0 where
  pub case : r ≡ input_of s
  pub number : input_code r ≡ cond (four_lines s) 0 40
  pub values : input_values r ≡ cond (four_lines s) (four_numbers s) []
