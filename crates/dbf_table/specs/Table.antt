-- Rules: document 01, "The table": what a table's header says, and refusals 1 to 10 in their order. Cited by every call on a table, which answers by
-- these first.
use Rattle.std.specs.Prelude.{ℕ, ◌+◌, ◌*◌, ◌-◌, ◌/◌, List, [], ◌∷◌, Bool, cond, not, ◌&&◌, ◌||◌, length, eqb, leb, Err, Ok, Result}
use Rattle.refusal.specs.Checks.{first_refusal}
use Rattle.octets.specs.Bytes.{byte_at, le16, le32}
use Rattle.octets.specs.Text.{is_digit}
use Rattle.calendar.specs.Calendar.{is_date}
use Rattle.numeral.specs.Format.{format_good}
use Rattle.dbf_table.specs.Range.{all_below, any_below, sum_below}
use Rattle.dbf_table.specs.declared.Shape.{Shape}

-- what the check of a table says: its shape, or a refusal's number
abbrev pub Checked : Type 0
Checked = Result Shape ℕ

-- ---- limits

-- "below 32 or above 16,777,216 bytes"
abbrev pub min_table : ℕ
min_table = 32

abbrev pub max_table : ℕ
max_table = 16777216

-- "f from 1 to 128"
abbrev pub max_fields : ℕ
max_fields = 128

-- "C 1-254"
abbrev pub max_text : ℕ
max_text = 254

-- "above 4,000"
abbrev pub max_record : ℕ
max_record = 4000

-- ---- marks

-- "tables of kinds 0x03 and 0xF5"
abbrev pub plain_kind : ℕ
plain_kind = 0x03

abbrev pub memo_kind : ℕ
memo_kind = 0xF5

-- "0x0D holds"
abbrev pub end_mark : ℕ
end_mark = 0x0D

-- "or one more that is 0x1A"
abbrev pub file_end : ℕ
file_end = 0x1A

-- "field types C, N, D, L and M"
abbrev pub type_c : ℕ
type_c = 0x43

abbrev pub type_n : ℕ
type_n = 0x4E

abbrev pub type_d : ℕ
type_d = 0x44

abbrev pub type_l : ℕ
type_l = 0x4C

abbrev pub type_m : ℕ
type_m = 0x4D

-- ---- what the header says

abbrev pub table_kind : List ℕ → ℕ
table_kind b = byte_at b 0

-- "Bytes 4-7: record count n. 8-9: header length H. 10-11: record length R."
abbrev pub count_place : ℕ
count_place = 4

abbrev pub header_length_place : ℕ
header_length_place = 8

abbrev pub record_length_place : ℕ
record_length_place = 10

unfoldable pub record_count : List ℕ → ℕ
record_count b = le32 b count_place

unfoldable pub header_length_of : List ℕ → ℕ
header_length_of b = le16 b header_length_place

unfoldable pub record_length_of : List ℕ → ℕ
record_length_of b = le16 b record_length_place

-- the f of "33 + 32f"
unfoldable pub field_count : List ℕ → ℕ
field_count b = (header_length_of b - 33) / 32

-- "Descriptors of 32 bytes begin at byte 32": the offset of the descriptor of field j, from 0
abbrev pub descriptor : ℕ → ℕ
descriptor j = 32 + 32 * j

-- "bytes 0-10 name ... 11 type; 16 length; 17 decimals"
abbrev pub field_type : List ℕ → ℕ → ℕ
field_type b j = byte_at b (descriptor j + 11)

abbrev pub field_length : List ℕ → ℕ → ℕ
field_length b j = byte_at b (descriptor j + 16)

abbrev pub field_decimals : List ℕ → ℕ → ℕ
field_decimals b j = byte_at b (descriptor j + 17)

-- "starts ... with its deletion byte; fields follow in order": the offset of field j in a record. Document 02, K7: "the deletion byte counted as offset 0,
-- worked out by us and not taken from bytes 12-15. Listing, reading, writing and match share it"
unfoldable pub field_offset : List ℕ → ℕ → ℕ
field_offset b j = 1 + sum_below (field_length b) j

-- ---- the checks, each true if its refusal is not given

-- 1: "table below 32 or above 16,777,216 bytes"
unfoldable pub size_good : List ℕ → Bool
size_good b = leb min_table (length b) && leb (length b) max_table

-- 2: "byte 0 is neither 0x03 nor 0xF5"
unfoldable pub kind_good : List ℕ → Bool
kind_good b = eqb (table_kind b) plain_kind || eqb (table_kind b) memo_kind

-- 3: "update date isn't a calendar date"; "Bytes 1-3: year less 1900, month, day"
unfoldable pub date_good : List ℕ → Bool
date_good b = is_date (1900 + byte_at b 1) (byte_at b 2) (byte_at b 3)

-- the years that byte 1 holds; document 02, K3: a date that is to be stored is 3 if it "isn't a calendar date", or if its year has no byte
abbrev pub first_year : ℕ
first_year = 1900

abbrev pub last_year : ℕ
last_year = 2155

unfoldable pub storable_date : ℕ → ℕ → ℕ → Bool
storable_date year month day = leb first_year year && leb year last_year && is_date year month day

-- 4: "bytes 8-9 aren't 33 + 32f with f from 1 to 128, or exceed the table's length"
unfoldable pub header_good : List ℕ → Bool
header_good b =
    eqb (header_length_of b) (33 + 32 * field_count b) && leb 1 (field_count b) && leb (field_count b) max_fields && leb (header_length_of b) (length b)

-- 5: "no 0x0D at the header's last byte"
unfoldable pub end_mark_good : List ℕ → Bool
end_mark_good b = eqb (byte_at b (header_length_of b - 1)) end_mark

-- "A-Z"
unfoldable pub is_letter : ℕ → Bool
is_letter c = leb 0x41 c && leb c 0x5A

-- "A-Z, 0-9, underscore"
unfoldable pub is_name_byte : ℕ → Bool
is_name_byte c = is_letter c || is_digit c || eqb c 0x5F

-- c may stand after the byte `before` in a name: c is zero, or c is a name's byte and `before` is not zero
unfoldable pub may_follow : ℕ → ℕ → Bool
may_follow before c = eqb c 0 || is_name_byte c && not (eqb before 0)

-- a name's byte k + 1 may stand after its byte k
unfoldable pub name_goes_on : List ℕ → ℕ → ℕ → Bool
name_goes_on b at k = may_follow (byte_at b (at + k)) (byte_at b (at + k + 1))

-- "1 to 10 of A-Z, 0-9, underscore, beginning with a letter, zero to byte 10"
unfoldable pub name_good : List ℕ → ℕ → Bool
name_good b at = is_letter (byte_at b at) && all_below (name_goes_on b at) 10 && eqb (byte_at b (at + 10)) 0

-- "Lengths: C 1-254, N 1-20, D 8, L 1, M 10. Decimals: N has 0, or 1 to 15 and at most length less 2; others 0."
unfoldable pub form_good : ℕ → ℕ → ℕ → Bool
form_good type size decimals =
    eqb type type_n && format_good size decimals
    || eqb decimals 0
    && (eqb type type_c && leb 1 size && leb size max_text
    || eqb type type_d && eqb size 8
    || eqb type type_l && eqb size 1
    || eqb type type_m && eqb size 10)

-- 6: "a field descriptor breaks its rules"
unfoldable pub descriptor_good : List ℕ → ℕ → Bool
descriptor_good b j = name_good b (descriptor j) && form_good (field_type b j) (field_length b j) (field_decimals b j)

unfoldable pub fields_good : List ℕ → Bool
fields_good b = all_below (descriptor_good b) (field_count b)

-- the names of fields i and j agree at byte k
unfoldable pub same_byte : List ℕ → ℕ → ℕ → ℕ → Bool
same_byte b i j k = eqb (byte_at b (descriptor i + k)) (byte_at b (descriptor j + k))

-- fields i and j have the same name: all 11 bytes
unfoldable pub same_name : List ℕ → ℕ → ℕ → Bool
same_name b i j = all_below (same_byte b i j) 11

-- a field before field i has its name
unfoldable pub name_taken : List ℕ → ℕ → Bool
name_taken b i = any_below (same_name b i) i

-- 7: "two fields have the same name"
unfoldable pub names_differ : List ℕ → Bool
names_differ b = not (any_below (name_taken b) (field_count b))

unfoldable pub is_memo : List ℕ → ℕ → Bool
is_memo b j = eqb (field_type b j) type_m

unfoldable pub has_memo : List ℕ → Bool
has_memo b = any_below (is_memo b) (field_count b)

-- 8: "an M field in kind 0x03, or none in 0xF5"
unfoldable pub memo_kind_good : List ℕ → Bool
memo_kind_good b = not (eqb (table_kind b) plain_kind && has_memo b || eqb (table_kind b) memo_kind && not (has_memo b))

-- 9: "record length isn't 1 + the field lengths, or is above 4,000"
unfoldable pub record_length_good : List ℕ → Bool
record_length_good b = eqb (record_length_of b) (field_offset b (field_count b)) && leb (record_length_of b) max_record

-- where the first k records end: "H + n·R" if k is n
unfoldable pub records_end : List ℕ → ℕ → ℕ
records_end b k = header_length_of b + k * record_length_of b

-- 10: "The table is H + n·R bytes, or one more that is 0x1A."
unfoldable pub length_good : List ℕ → Bool
length_good b =
    let end = records_end b (record_count b) in
    eqb (length b) end || eqb (length b) (end + 1) && eqb (byte_at b end) file_end

-- ---- records

-- "Record i (from 1) starts at H + (i − 1)·R with its deletion byte"
unfoldable pub record_start : List ℕ → ℕ → ℕ
record_start b i = records_end b (i - 1)

unfoldable pub deletion_byte : List ℕ → ℕ → ℕ
deletion_byte b i = byte_at b (record_start b i)

-- "deletion byte is neither 0x20 nor 0x2A": the mark of a record that is kept, and of a deleted record
abbrev pub kept_mark : ℕ
kept_mark = 0x20

abbrev pub deleted_mark : ℕ
deleted_mark = 0x2A

-- ---- the answer

-- "Order: 1 to 10"
unfoldable pub table_checks : List ℕ → List (Bool × ℕ)
table_checks b =
    (size_good b, 1)
    ∷ (kind_good b, 2)
    ∷ (date_good b, 3)
    ∷ (header_good b, 4)
    ∷ (end_mark_good b, 5)
    ∷ (fields_good b, 6)
    ∷ (names_differ b, 7)
    ∷ (memo_kind_good b, 8)
    ∷ (record_length_good b, 9)
    ∷ (length_good b, 10)
    ∷ []

unfoldable pub table_refusal : List ℕ → ℕ
table_refusal b = first_refusal (table_checks b)

-- what a checked header hands to its callers
unfoldable pub shape_of : List ℕ → Shape
shape_of b = record {
  kind = table_kind b;
  records = record_count b;
  header_length = header_length_of b;
  record_length = record_length_of b;
  fields = field_count b;
}

-- the table's shape, or the number of its refusal
unfoldable pub check_table : List ℕ → Checked
check_table b = cond (eqb (table_refusal b) 0) (Ok (shape_of b)) (Err (table_refusal b))
