-- Rules: what the program's arguments FIELD and INDEX say. Cited by `field_argument` and `is_ndx`. Assumes nothing.
use Rattle.std.specs.Prelude.{ℕ, ◌+◌, ◌-◌, min, Bool, cond, not, ◌&&◌, ◌||◌, ◌≡◌, List, [], ◌∷◌, length, eqb, leb, Result, Ok, Err}
use Rattle.octets.specs.Bytes.{byte_at}
use Rattle.octets.specs.Text.{every, is_digit, number_of}
use Rattle.inspect_argument.specs.declared.Field.{Field}
use Rattle.inspect_argument.specs.declared.Field.TheVariants.{Number, Name}

-- "FIELD is a field's number, 1 to 10 digits"
unfoldable pub is_number : List ℕ → Bool
is_number text = leb 1 (length text) && leb (length text) 10 && every is_digit text

-- "or its name: 1 to 10 bytes of which the first is no digit"
unfoldable pub is_name : List ℕ → Bool
is_name text = leb 1 (length text) && leb (length text) 10 && not (is_digit (byte_at text 0))

-- the greatest number of 32 bits. No table has a field of this number or of a greater one
abbrev pub max_number : ℕ
max_number = 4294967295

-- a text is a name, a field's number, or neither, "40"
unfoldable pub field_argument : List ℕ → Result Field ℕ
field_argument text = cond (is_name text) (Ok Name) (cond (is_number text) (Ok (Number (min (number_of text) max_number))) (Err 40))

-- an argument's number: 0 if it is one, 40 if not
abbrev pub field_argument_code : Result Field ℕ → ℕ
field_argument_code (Ok field) = 0
field_argument_code (Err n) = n

-- its values: the field's number
abbrev pub field_argument_values : Result Field ℕ → List ℕ
field_argument_values (Ok (Number n)) = n ∷ []
field_argument_values (Ok Name) = []
field_argument_values (Err n) = []

-- what `field_argument` answers: the case; 40 for a text that is neither; a number's value
pub record FieldArgument (text : List ℕ) (r : Result Field ℕ) : Type 0 where
  pub case : r ≡ field_argument text
  pub number : field_argument_code r ≡ cond (is_name text || is_number text) 0 40
  pub values : field_argument_values r ≡ cond (not (is_name text) && is_number text) (min (number_of text) max_number ∷ []) []

-- a letter, by its two forms
unfoldable pub is_letter : ℕ → ℕ → ℕ → Bool
is_letter small capital c = eqb c small || eqb c capital

-- `.ndx`, "in any letters", at offset `at`
unfoldable pub ndx_at : List ℕ → ℕ → Bool
ndx_at name at =
    eqb (byte_at name at) 0x2E
    && (is_letter 0x6E 0x4E (byte_at name (at + 1)) && (is_letter 0x64 0x44 (byte_at name (at + 2)) && is_letter 0x78 0x58 (byte_at name (at + 3))))

-- "an INDEX whose name ends in `.ndx`, in any letters"
unfoldable pub is_ndx : List ℕ → Bool
is_ndx name = leb 4 (length name) && ndx_at name (length name - 4)
