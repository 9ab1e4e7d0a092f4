-- Rules: appending a record to a table, document 02, K3: the refusals in their order, the two stores, and the buffer that they leave.
use Rattle.std.specs.Prelude.{ℕ, zero, suc, ◌+◌, ◌≤◌, ◌<◌, ◌≡◌, List, [], ◌∷◌, ◌++◌, Bool, cond, ◌&&◌, length, take, eqb, leb, Err, None, Ok, Some, Result}
use Rattle.refusal.specs.After.{After, left}
use Rattle.refusal.specs.Checks.{first_refusal, unless}
use Rattle.octets.specs.Bytes.{byte_at, to_le32}
use Rattle.octets.specs.Store.{put, window}
use Rattle.calendar.specs.DateText.{date_of}
use Rattle.calendar.specs.DateText.{DateAnswer}
use Rattle.numeral.specs.Reading.{read_number}
use Rattle.fpt_memo.specs.Memo.{MemoNumber, memo_number}
use Rattle.dbf_table.specs.Table.{min_table, max_table, file_end, type_n, type_d, type_l, type_m, field_type, field_length, field_decimals, field_offset}
use Rattle.dbf_table.specs.Table.{field_count, count_place, record_length_of, record_count, records_end, table_checks, check_table}
use Rattle.dbf_table.specs.Table.{Checked}
use Rattle.dbf_cell.specs.Cell.{mark_good, logical_of}
use Rattle.dbf_cell.specs.Codes.{number_refusal}
use Rattle.dbf_cell.specs.Cell.{Logical}
use Rattle.dbf_append.specs.declared.Store.{Store}
use Rattle.dbf_append.specs.declared.Appended.{Appended}

-- ---- the table in the buffer

-- "given the table's length beside the buffer, 10 if it is longer than the buffer, tested first; then 1 to 10", and then other checks
unfoldable pub held_checks : List ℕ → ℕ → List (Bool × ℕ) → List (Bool × ℕ)
held_checks b n more = (leb n (length b), 10) ∷ (table_checks (take n b) ++ more)

-- the table's shape, or the number of its refusal
unfoldable pub check_held : List ℕ → ℕ → Checked
check_held b n = cond (leb n (length b)) (check_table (take n b)) (Err 10)

-- ---- "each field's text in order"

-- what the readers of dates and logical values refuse; a value is no refusal, and blanks are none
unfoldable pub date_refusal : DateAnswer → ℕ
date_refusal (Ok (Some d)) = 0
date_refusal (Ok None) = 0
date_refusal (Err n) = n

unfoldable pub logical_refusal : Logical → ℕ
logical_refusal (Ok (Some v)) = 0
logical_refusal (Ok None) = 0
logical_refusal (Err n) = n

-- "M by 21 for its form alone"
unfoldable pub memo_refusal : MemoNumber → ℕ
memo_refusal (Ok (Some number)) = 0
memo_refusal (Ok None) = 0
memo_refusal (Err n) = n

-- the refusal of a text that a field of this type and decimal count is to hold, 0 for none; a C field holds any bytes
unfoldable pub text_refusal : ℕ → ℕ → List ℕ → ℕ
text_refusal type decimals s =
    cond (eqb type type_n) (number_refusal (read_number s decimals))
    (cond (eqb type type_d) (date_refusal (date_of s))
    (cond (eqb type type_l) (logical_refusal (logical_of (byte_at s 0)))
    (cond (eqb type type_m) (memo_refusal (memo_number s))
    0)))

-- the bytes of field j, from 0, in a record of table t
unfoldable pub text_in : List ℕ → List ℕ → ℕ → List ℕ
text_in t r j = window r (field_offset t j) (field_length t j)

-- the refusal of the first of `left` fields from field j on whose text is refused, 0 if there is none
unfoldable pub texts_refusal : List ℕ → List ℕ → ℕ → ℕ → ℕ
texts_refusal t r j zero = 0
texts_refusal t r j (suc left) =
    let here = text_refusal (field_type t j) (field_decimals t j) (text_in t r j) in
    let rest = texts_refusal t r (j + 1) left in
    cond (eqb here 0) rest here

-- ---- the refusals in their order

-- a table that ends there passes neither the buffer "or 16,777,216 bytes"
unfoldable pub room_for : ℕ → ℕ → Bool
room_for end room = leb end room && leb end max_table

-- where the table ends with a record more: H + (n + 1)·R and the end mark
unfoldable pub new_end : List ℕ → ℕ
new_end t = records_end t (record_count t + 1) + 1

-- "9 if the record isn't R bytes, 15, then each field's text in order, .., then 30 if the new end mark would pass the buffer or 16,777,216 bytes"
unfoldable pub record_checks : List ℕ → ℕ → List ℕ → List (Bool × ℕ)
record_checks t room r =
    let texts = texts_refusal t r 0 (field_count t) in
    (eqb (length r) (record_length_of t), 9)
    ∷ (mark_good (byte_at r 0), 15)
    ∷ (eqb texts 0, texts)
    ∷ (room_for (new_end t) room, 30)
    ∷ []

unfoldable pub record_refusal : List ℕ → ℕ → List ℕ → ℕ
record_refusal t room r = first_refusal (record_checks t room r)

abbrev pub append_checks : List ℕ → ℕ → List ℕ → List (Bool × ℕ)
append_checks b n r = held_checks b n (record_checks (take n b) (length b) r)

unfoldable pub append_refusal : List ℕ → ℕ → List ℕ → ℕ
append_refusal b n r = first_refusal (append_checks b n r)

-- ---- the stores

-- bytes, and where they are stored
pub record Write : Type 0 where
  pub place : ℕ
  pub bytes : List ℕ

-- a buffer or a file after it
abbrev pub write : Write → List ℕ → List ℕ
write w b = put b w.place w.bytes

-- what the host is told of it: "place and length"
abbrev pub told : Write → Store
told w = record { place = w.place; length = length w.bytes }

-- "record with end mark first", from H + n·R on, "the four count bytes last"
unfoldable pub record_write : List ℕ → List ℕ → Write
record_write t r = record { place = records_end t (record_count t); bytes = r ++ (file_end ∷ []) }

unfoldable pub count_write : List ℕ → Write
count_write t = record { place = count_place; bytes = to_le32 (record_count t + 1) }

-- ---- the answer

-- the two stores, or a refusal's number
abbrev pub Answer : Type 0
Answer = Result Appended ℕ

-- both stores made in a buffer that begins with the table; "Append changes only two stores' bytes and answers both, place and length each"
unfoldable pub stored : List ℕ → List ℕ → After Answer
stored b r =
    left (write (count_write b) (write (record_write b r) b)) (Ok (record { first = told (record_write b r); second = told (count_write b) }))

-- a refusal by a number: no store is made
abbrev pub unstored : ℕ → Answer
unstored n = Err n

-- what append leaves and answers; a refusal leaves the buffer as it was
unfoldable pub append_rule : List ℕ → ℕ → List ℕ → After Answer
append_rule b n r = unless (append_checks b n r) (λ refusal. left b (unstored refusal)) (stored b r)

-- what the stores rest on: the header's numbers are there, the record has R bytes, and the new end lies in the buffer
pub record Appendable (b r : List ℕ) : Type 0 where
  pub long : min_table ≤ length b
  pub fills : length r ≡ record_length_of b
  pub room : new_end b ≤ length b
  pub count : record_count b < max_table
