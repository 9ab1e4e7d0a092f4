-- Laws: what the argument FIELD says, by its length, its first byte and its digits. Assumes nothing.
use Rattle.std.specs.Prelude.{ℕ, ◌≤◌, ◌<◌, min, ◌≡◌, true, false, List, length, None, Some, Option, Result, Ok, Err}
use Rattle.std.proofs.Common.{arith}
use borrow.Author.Tests.{le-leb, lt-leb}
use Rattle.basis.specs.Tests.{either}
use Rattle.octets.specs.Bytes.{byte_at}
use Rattle.octets.specs.Text.{every, is_digit, digits_of}
use Rattle.octets.specs.TextLaws.{digits-read, digits-unread}
use Rattle.inspect_argument.specs.Arguments.{is_number, is_name, max_number, field_argument, FieldArgument}
use Rattle.inspect_argument.specs.declared.Field.{Field}
use Rattle.inspect_argument.specs.declared.Field.TheVariants.{Number, Name}

-- a text of no bytes or of more than ten is neither
pub too_short : (text : List ℕ) → length text < 1 → field_argument text ≡ Err 40
unfolding field_argument is_name is_number
too_short text few = rw (lt-leb 1 (length text) few)

pub too_long : (text : List ℕ) → 10 < length text → field_argument text ≡ Err 40
unfolding field_argument is_name is_number
too_long text many = rw (le-leb 1 (length text) (omega arith), lt-leb (length text) 10 many)

-- the argument by its digits
abbrev pub of_digits : Option ℕ → Result Field ℕ
of_digits (Some n) = Ok (Number (min n max_number))
of_digits None = Err 40

module _ (text : List ℕ) (some : 1 ≤ length text) (few : length text ≤ 10) where
  -- a text of 1 to 10 bytes is a name if its first byte is no digit
  pub by_name : is_digit (byte_at text 0) ≡ false → field_argument text ≡ Ok Name
  unfolding field_argument is_name
  by_name other = rw (le-leb 1 (length text) some, le-leb (length text) 10 few, other)

  -- else its digits decide
  pub by_digits : is_digit (byte_at text 0) ≡ true → field_argument text ≡ of_digits (digits_of text)
  unfolding field_argument is_name is_number
  by_digits first =
      rw (le-leb 1 (length text) some, le-leb (length text) 10 few, first)
      (either (every is_digit text) (λ all. rw (all, digits-read text all)) (λ other. rw (other, digits-unread text other)))

-- the answer's number and values, by its case
pub field-answer : (text : List ℕ) (r : Result Field ℕ) → r ≡ field_argument text → FieldArgument text r
unfolding field_argument
field-answer text r e = record {
  case = e;
  number = rw e (either (is_name text) (λ name. rw name) (λ none. either (is_number text) (λ number. rw (none, number)) (λ other. rw (none, other))));
  values = rw e (either (is_name text) (λ name. rw name) (λ none. either (is_number text) (λ number. rw (none, number)) (λ other. rw (none, other))));
}
