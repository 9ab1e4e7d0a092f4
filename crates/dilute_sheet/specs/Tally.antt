-- Rules: how many lines a sheet has and how many of them are refusals, or the number that refuses the whole sheet. The exit status of `./dilute` goes by it.
-- The call `tally::sheet_verdict` cites `verdict_of`.
use Rattle.std.specs.Prelude.{ℕ, zero, suc, ◌+◌, cond, List, eqb, Result, Err, Ok}
use Rattle.refusal.specs.Checks.{first_refusal}
use Rattle.dbf_table.specs.Table.{deleted_mark, record_count, deletion_byte}
use Rattle.dilution.specs.Dilution.{sheet_checks}
use Rattle.dilution.specs.Dilution.{Dilution}
use Rattle.dilute_sheet.specs.declared.input.Request.{Request}
use Rattle.dilute_sheet.specs.declared.tally.Tally.{Tally}
use Rattle.dilute_sheet.specs.Input.{input_of}
use Rattle.dilute_sheet.specs.Sheet.{answer_on}

-- whether an answer is a refusal: 1 if it is, 0 for volumes
unfoldable pub refusals : Dilution → ℕ
refusals (Ok v) = 0
refusals (Err n) = 1

abbrev pub tally : ℕ → ℕ → Tally
tally lines refused = record { lines = lines; refused = refused }

-- record i: "For each record not marked deleted .. a line"
unfoldable pub lines_at : List ℕ → ℕ → ℕ
lines_at t i = cond (eqb (deletion_byte t i) deleted_mark) 0 1

unfoldable pub refused_at : List ℕ → List ℕ → Request → ℕ → ℕ
refused_at t b q i = cond (eqb (deletion_byte t i) deleted_mark) 0 (refusals (answer_on t b q i))

-- the sum over the records after record i, `left` of them
unfoldable pub sum_after : (ℕ → ℕ) → ℕ → ℕ → ℕ
sum_after f i zero = 0
sum_after f i (suc left) = f (i + 1) + sum_after f (i + 1) left

-- all records of a sheet that is not refused
unfoldable pub tally_of : List ℕ → List ℕ → Request → Tally
tally_of t b q = tally (sum_after (lines_at t) 0 (record_count t)) (sum_after (refused_at t b q) 0 (record_count t))

-- "a refusal by the match or by 12 or 13", or the lines of all records
unfoldable pub request_verdict : List ℕ → List ℕ → Request → Result Tally ℕ
request_verdict t b q =
    let refusal = first_refusal (sheet_checks t b q.barcode_field q.field) in
    cond (eqb refusal 0) (Ok (tally_of t b q)) (Err refusal)

-- "Other .. input .. give 40, before all else"
unfoldable pub input_verdict : List ℕ → List ℕ → Result Request ℕ → Result Tally ℕ
input_verdict t b (Ok q) = request_verdict t b q
input_verdict t b (Err n) = Err n

unfoldable pub verdict_of : List ℕ → List ℕ → List ℕ → Result Tally ℕ
verdict_of t b s = input_verdict t b (input_of s)
