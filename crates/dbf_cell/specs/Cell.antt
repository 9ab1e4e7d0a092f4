-- Rules: document 01, "Field text": reading one field of one record. Refusals 1 to 13 and 15, then what concerns the text or the memo.
use Rattle.std.specs.Prelude.{Err, ℕ, ◌+◌, ◌-◌, ◌≤◌, List, [], ◌∷◌, ◌++◌, Bool, true, false, cond, ◌||◌, length, eqb, None, Ok, Some, Result, Option}
use Rattle.refusal.specs.Checks.{first_refusal}
use Rattle.octets.specs.Bytes.{byte_at}
use Rattle.octets.specs.Store.{window}
use Rattle.calendar.specs.DateText.{date_of}
use Rattle.calendar.specs.DateText.{DateAnswer}
use Rattle.octets.specs.Text.{blank}
use Rattle.numeral.specs.Reading.{read_number}
use Rattle.numeral.specs.Format.{Number}
use Rattle.fpt_memo.specs.Memo.{MemoPlace, span, memo_text}
use Rattle.dbf_table.specs.Table.{type_c, type_n, type_d, type_l, type_m, kept_mark, deleted_mark, field_type, field_length, field_decimals, field_offset}
use Rattle.dbf_table.specs.Table.{field_count, record_count, record_start, deletion_byte, table_checks}
use Rattle.dbf_field.specs.Field.{place_at, number_good}
use Rattle.dbf_field.specs.Field.{Placed}
use Rattle.dbf_cell.specs.declared.Reads.{Reads}
use Rattle.dbf_cell.specs.declared.Reads.TheVariants.{Numbers, Dates, Logicals, Texts}
use Rattle.dbf_cell.specs.declared.TextPlace.{TextPlace}
use Rattle.dbf_cell.specs.declared.TextPlace.TheVariants as text

-- what the text of an L field says: a value, nothing, or a refusal's number
abbrev pub Logical : Type 0
Logical = Result (Option Bool) ℕ

-- where the text of a C or M field lies: its place, nothing, or a refusal's number
abbrev pub TextAnswer : Type 0
TextAnswer = Result (Option TextPlace) ℕ

-- ---- what a call may read

-- 13: "the field's type isn't the one this call reads"; the text call reads C and M
unfoldable pub reads_type : Reads → ℕ → Bool
reads_type Numbers type = eqb type type_n
reads_type Dates type = eqb type type_d
reads_type Logicals type = eqb type type_l
reads_type Texts type = eqb type type_c || eqb type type_m

-- 15: "deletion byte is neither 0x20 nor 0x2A"; "Fields of deleted records are read like others"
abbrev pub mark_good : ℕ → Bool
mark_good mark = eqb mark kept_mark || eqb mark deleted_mark

-- "Order: 1 to 10 ... then 11, 12, 13, 14, 15, then what concerns the text or memo"; 14 is the listing's alone
abbrev pub cell_checks : Reads → List ℕ → ℕ → ℕ → List (Bool × ℕ)
cell_checks reads b i field =
    table_checks b
    ++ ((number_good i (record_count b), 11)
    ∷ (number_good field (field_count b), 12)
    ∷ (reads_type reads (field_type b (field - 1)), 13)
    ∷ (mark_good (deletion_byte b i), 15)
    ∷ [])

unfoldable pub cell_refusal : Reads → List ℕ → ℕ → ℕ → ℕ
cell_refusal reads b i field = first_refusal (cell_checks reads b i field)

-- "fields follow in order": where the field of record i starts in the table, and its bytes
unfoldable pub field_start : List ℕ → ℕ → ℕ → ℕ
field_start b i field = record_start b i + field_offset b (field - 1)

unfoldable pub field_bytes : List ℕ → ℕ → ℕ → List ℕ
field_bytes b i field = window b (field_start b i field) (field_length b (field - 1))

-- ---- N, D and L

-- N: the number that its text means, with the field's decimals
unfoldable pub number_cell : List ℕ → ℕ → ℕ → Number
number_cell b i field =
    let refusal = cell_refusal Numbers b i field in
    cond (eqb refusal 0) (read_number (field_bytes b i field) (field_decimals b (field - 1))) (Err refusal)

-- D: the date of its text
unfoldable pub date_cell : List ℕ → ℕ → ℕ → DateAnswer
date_cell b i field =
    let refusal = cell_refusal Dates b i field in
    cond (eqb refusal 0) (date_of (field_bytes b i field)) (Err refusal)

-- "L: T, F or blank. Blanks are empty"; 20: "bad date or logical text"
abbrev pub letter_t : ℕ
letter_t = 0x54

abbrev pub letter_f : ℕ
letter_f = 0x46

unfoldable pub logical_of : ℕ → Logical
logical_of c =
    cond (eqb c letter_t) (Ok (Some true))
    (cond (eqb c letter_f) (Ok (Some false))
    (cond (eqb c blank) (Ok None)
    (Err 20)))

-- L: the value of its one byte
unfoldable pub logical_cell : List ℕ → ℕ → ℕ → Logical
logical_cell b i field =
    let refusal = cell_refusal Logicals b i field in
    cond (eqb refusal 0) (logical_of (byte_at b (field_start b i field))) (Err refusal)

-- ---- C and M

-- a place in the memo file, as the place of a text
unfoldable pub memo_part : MemoPlace → TextAnswer
memo_part (Ok (Some place)) = Ok (Some (text.Memo place))
memo_part (Ok None) = Ok None
memo_part (Err n) = Err n

-- "C: all its bytes, blank or not"; "for an M field that part of the memo file itself"
unfoldable pub text_at : List ℕ → List ℕ → ℕ → ℕ → ℕ → TextAnswer
text_at b m type start len = cond (eqb type type_c) (Ok (Some (text.Table (span start len)))) (memo_part (memo_text (window b start len) m))

-- "a call beside it, by value, answers the number, "empty" or "text"": the text's place
unfoldable pub text_cell : List ℕ → List ℕ → ℕ → ℕ → TextAnswer
text_cell b m i field =
    let refusal = cell_refusal Texts b i field in
    cond (eqb refusal 0)
    (text_at b m (field_type b (field - 1)) (field_start b i field) (field_length b (field - 1)))
    (Err refusal)

-- the part that the text call hands back: "that part of the table itself", "that part of the memo file itself"; for a refusal "and for an empty field ...
-- a part of no bytes"
unfoldable pub text_part : List ℕ → List ℕ → TextAnswer → List ℕ
text_part b m (Ok (Some (text.Table place))) = window b place.start place.len
text_part b m (Ok (Some (text.Memo place))) = window m place.start place.len
text_part b m (Ok None) = []
text_part b m (Err n) = []

-- ---- Steps: the contracts of `cell_place` and `text_part` cite these two; who calls by numbers need not believe them

-- where the field of record i lies, if the call may read it
unfoldable pub cell_place : Reads → List ℕ → ℕ → ℕ → Placed
cell_place reads b i field =
    let refusal = cell_refusal reads b i field in
    cond (eqb refusal 0) (Ok (place_at b i field)) (Err refusal)

-- the place of a text lies in its file
unfoldable pub TextWithin : List ℕ → List ℕ → TextAnswer → Type 0
TextWithin b m (Ok (Some (text.Table place))) = place.start + place.len ≤ length b
TextWithin b m (Ok (Some (text.Memo place))) = place.start + place.len ≤ length m
TextWithin b m (Ok None) = Unit {0}
TextWithin b m (Err n) = Unit {0}
