-- Rules: document 01, one field by value: "a name, type, length and decimals", with document 02's offset (K7), and where a field of a
-- record lies. Refusals 1 to 10, 11 and 12. Cited by `field_entry` and `field_place`.
use Rattle.std.specs.Prelude.{ℕ, ◌+◌, ◌-◌, ◌≤◌, ◌≡◌, List, [], ◌∷◌, ◌++◌, Bool, cond, ◌&&◌, length, replicate, eqb, leb, Err, Ok, Result}
use Rattle.refusal.specs.Checks.{first_refusal}
use Rattle.octets.specs.Store.{window}
use Rattle.dbf_table.specs.Table.{descriptor, field_type, field_length, field_decimals, field_offset, field_count, record_count, record_start, deletion_byte}
use Rattle.dbf_table.specs.Table.{table_checks, table_refusal}
use Rattle.dbf_field.specs.declared.FieldEntry.{FieldEntry}
use Rattle.dbf_field.specs.declared.Place.{Place}

-- a field's entry, or a refusal's number
abbrev pub FieldAnswer : Type 0
FieldAnswer = Result FieldEntry ℕ

-- where a field of a record lies, or a refusal's number
abbrev pub Placed : Type 0
Placed = Result Place ℕ

-- ---- an entry

-- "bytes 0-10 name": the 11 bytes of the name of field j, from 0
unfoldable pub field_name : List ℕ → ℕ → List ℕ
field_name b j = window b (descriptor j) 11

-- "each a name, type, length and decimals"; document 02, K7: "the field's offset inside the record, the deletion byte counted as offset 0, worked out by us"
unfoldable pub entry_of : List ℕ → ℕ → FieldEntry
entry_of b j = record {
  name = field_name b j;
  kind = field_type b j;
  length = field_length b j;
  decimals = field_decimals b j;
  offset = field_offset b j;
}

-- an entry of zeros, which stands for one that a list does not have
unfoldable pub no_entry : FieldEntry
no_entry = record {
  name = replicate 11 0;
  kind = 0;
  length = 0;
  decimals = 0;
  offset = 0;
}

-- "record number 0 or above the count", "field number 0 or above f": true if the number is from 1 to the count
unfoldable pub number_good : ℕ → ℕ → Bool
number_good number count = leb 1 number && leb number count

-- "1 to 10 ... then ... 12": "field number 0 or above f"
unfoldable pub field_refusal : List ℕ → ℕ → ℕ
field_refusal b field = first_refusal (table_checks b ++ ((number_good field (field_count b), 12) ∷ []))

-- the entry of a field by its number, from 1
unfoldable pub field_answer : List ℕ → ℕ → FieldAnswer
field_answer b field = cond (eqb (field_refusal b field) 0) (Ok (entry_of b (field - 1))) (Err (field_refusal b field))

-- ---- a field in a record

-- "1 to 10 ... then 11, 12": "record number 0 or above the count", "field number 0 or above f"
unfoldable pub place_refusal : List ℕ → ℕ → ℕ → ℕ
place_refusal b number field = first_refusal (table_checks b ++ ((number_good number (record_count b), 11) ∷ (number_good field (field_count b), 12) ∷ []))

-- what holds if none of these refuses: the table is good, and has the record and the field
pub record PlaceGood (b : List ℕ) (number field : ℕ) : Type 0 where
  pub table : table_refusal b ≡ 0
  pub record-from : 1 ≤ number
  pub record_to : number ≤ record_count b
  pub field_from : 1 ≤ field
  pub field_to : field ≤ field_count b

-- the record's deletion byte, and where its field lies in the table: as far behind the record's start as its entry says
unfoldable pub place_at : List ℕ → ℕ → ℕ → Place
place_at b number field =
    let entry = entry_of b (field - 1) in
    record {
      mark = deletion_byte b number;
      start = record_start b number + entry.offset;
      kind = entry.kind;
      length = entry.length;
      decimals = entry.decimals;
    }

-- a place lies in the table, and has a byte at least
pub record PlaceInside (b : List ℕ) (p : Place) : Type 0 where
  pub some : 1 ≤ p.length
  pub inside : p.start + p.length ≤ length b

unfoldable pub place_of : List ℕ → ℕ → ℕ → Placed
place_of b number field = cond (eqb (place_refusal b number field) 0) (Ok (place_at b number field)) (Err (place_refusal b number field))

-- ---- the answer as document 01 counts it

-- an answer's number: 0 for a place, or the refusal's
abbrev pub place_code : Placed → ℕ
place_code (Ok p) = 0
place_code (Err n) = n

-- an answer's values: the place; "A refusal answers its number alone"
abbrev pub place_values : Placed → List Place
place_values (Ok p) = p ∷ []
place_values (Err n) = []

-- what `field_place` answers: the case, its number, and its values
pub record PlaceAnswer (b : List ℕ) (number field : ℕ) (r : Placed) : Type 0 where
  pub case : r ≡ place_of b number field
  pub code : place_code r ≡ place_refusal b number field
  pub values : place_values r ≡ cond (eqb (place_refusal b number field) 0) (place_at b number field ∷ []) []
