-- Rules: the lines that the program prints, document 02, K11: "For each record not marked deleted, in order, it prints a line: barcode, sample and diluent as
-- whole tenths, or barcode and refusal number, one space between." The call `sheet` cites `sheet_text`.
use Rattle.std.specs.Prelude.{ℕ, zero, suc, ◌+◌, cond, List, [], ◌∷◌, ◌++◌, eqb, Result, Err, Ok}
use Rattle.refusal.specs.Checks.{first_refusal}
use Rattle.octets.specs.Text.{blank, decimal}
use Rattle.dbf_table.specs.Table.{deleted_mark, record_count, deletion_byte}
use Rattle.dbf_cell.specs.Cell.{field_bytes}
use Rattle.dilution.specs.Dilution.{sheet_checks, dilute_rule}
use Rattle.dilution.specs.Dilution.{Dilution}
use Rattle.dilute_sheet.specs.declared.input.Request.{Request}
use Rattle.dilute_sheet.specs.Input.{line_feed, input_of}

-- a number behind "one space"
unfoldable pub number_text : ℕ → List ℕ
number_text n = blank ∷ decimal n

-- "sample and diluent as whole tenths, or .. refusal number", and the line's end
unfoldable pub answer_text : Dilution → List ℕ
answer_text (Ok v) = number_text v.sample ++ (number_text v.diluent ++ (line_feed ∷ []))
answer_text (Err n) = number_text n ++ (line_feed ∷ [])

-- what the call for one barcode answers for the barcode of record i
unfoldable pub answer_on : List ℕ → List ℕ → Request → ℕ → Dilution
answer_on t b q i = dilute_rule t b q.barcode_field q.field (field_bytes t i q.barcode_field) q.target q.final_volume

-- the line of record i: "barcode, .."; none for a record marked deleted
unfoldable pub record_line : List ℕ → List ℕ → Request → ℕ → List ℕ
record_line t b q i = cond (eqb (deletion_byte t i) deleted_mark) [] (field_bytes t i q.barcode_field ++ answer_text (answer_on t b q i))

-- the lines of the records after record i, `left` of them, "in order"
unfoldable pub lines_after : List ℕ → List ℕ → Request → ℕ → ℕ → List ℕ
lines_after t b q i zero = []
lines_after t b q i (suc left) = record_line t b q (i + 1) ++ lines_after t b q (i + 1) left

-- a refusal "printed alone, as the only line"
unfoldable pub alone_text : ℕ → List ℕ
alone_text n = decimal n ++ (line_feed ∷ [])

-- "a refusal by the match or by 12 or 13", or the lines of all records
unfoldable pub request_text : List ℕ → List ℕ → Request → List ℕ
request_text t b q =
    let refusal = first_refusal (sheet_checks t b q.barcode_field q.field) in
    cond (eqb refusal 0) (lines_after t b q 0 (record_count t)) (alone_text refusal)

-- "Other .. input .. give 40, before all else"
unfoldable pub input_text : List ℕ → List ℕ → Result Request ℕ → List ℕ
input_text t b (Ok q) = request_text t b q
input_text t b (Err n) = alone_text 40

unfoldable pub sheet_text : List ℕ → List ℕ → List ℕ → List ℕ
sheet_text t b s = input_text t b (input_of s)
