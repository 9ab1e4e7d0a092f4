-- Laws: how long a sheet's text is at most: so a buffer of 7 times the table's bytes and 4 more holds all of it. No proof of the code cites them: they are for
-- who lends the buffer. Assumes nothing.
use Rattle.std.specs.Prelude.{◌≡◌, refl, Bool, true, List, [], ◌∷◌, ◌++◌, length, eqb, Err, None, Ok, Some, Result}
use Prim.Native.Nat.{ℕ, zero, suc, ◌+◌, ◌*◌, ◌-◌, ◌^◌, ◌≤◌, ◌<◌}
use Rattle.std.proofs.Common.{add-mul, length-take, lit<, eqb-true, ltb-true, leb-true}
use Rattle.std.proofs.Math.Nat.{mul_left_comm, mul-le-mul_left}
use native.Mathlib.Omega.{arith}
use Rattle.std.proofs.Math.ListN.{length-append}
use Rattle.basis.specs.Tests.{either}
use Rattle.basis.specs.Lists.{All, all_append, all_map}
use Rattle.refusal.specs.CheckLaws.{first_below, Refuses, unless-cases}
use Rattle.refusal.specs.Checks.{first_refusal, unless}
use Rattle.octets.specs.Store.{window}
use Rattle.octets.specs.Text.{decimal}
use Rattle.octets.specs.DigitLaws.{decimal-fits}
use Rattle.numeral.specs.Format.{Number}
use Rattle.dbf_table.specs.Table.{record_count, record_length_of, records_end, field_length, deletion_byte, deleted_mark}
use Rattle.dbf_table.specs.Table.{table_checks, table_refusal}
use Rattle.dbf_table.specs.TableLaws.{layout}
use Rattle.dbf_table.specs.RecordLaws.{field_inside, offset-positive}
use Rattle.dbf_table.specs.FormLaws.{field_form, form-some}
use Rattle.dbf_cell.specs.Cell.{field_bytes}
use Rattle.dbf_cell.specs.Codes.{number_refusal}
use Rattle.dbf_cell.specs.AnswerLaws.{table_below, number-numbered}
use Rattle.idx_sound.specs.AuditTest.{pages_good}
use Rattle.idx_match.specs.Match.{match_checks, match_refusal}
use Rattle.idx_match.specs.MatchTest.{column_of, entries_match, leaf_entries}
use Rattle.idx_match.specs.Computed.{match_answer}
use Rattle.dilution.specs.Dilution.{volumes_of, concentration_decimals, concentration_text, concentration_of, header_checks, field_checks, sheet_checks}
use Rattle.dilution.specs.Dilution.{record_with}
use Rattle.dilution.specs.Dilution.{barcode_checks, text_checks, volume_checks, dilution_of, record_dilution, dilute_rule}
use Rattle.dilution.specs.StepLaws.{range_bounds}
use Rattle.dilution.specs.VolumeLaws.{sample-most}
use Rattle.dilution.specs.BarcodeLaws.{good-table, known}
use Rattle.dilution.specs.DilutionLaws.{sheet_good}
use Rattle.dilution.specs.Dilution.{Dilution}
use Rattle.dilute_sheet.specs.declared.input.Request.{Request}
use Rattle.dilute_sheet.specs.Input.{line_feed, input_of}
use Rattle.dilute_sheet.specs.Sheet.{number_text, answer_text, answer_on, record_line, lines_after, alone_text, request_text, input_text, sheet_text}

-- ---- the numbers of an answer are small

abbrev Low : Bool × ℕ → Type 0
Low check = check.1 < 256

abbrev Small : Dilution → Type 0
Small (Ok v) = (v.sample ≤ 10000) × (v.diluent ≤ 10000)
Small (Err n) = n < 256

unless-small : (checks : List (Bool × ℕ)) (d : Dilution) → All Low checks → (All (λ check. check.0 ≡ true) checks → Small d)
    → Small (unless checks Err d)
unless-small checks d low after =
    unless-cases Err d (λ n. n < 256) checks (all_map Low (Refuses (λ n. n < 256)) (λ check l bad. l) checks low)
    (λ held made. rw made (after held))
    (λ n l refused. rw refused l)

match_low : (t b : List ℕ) (field : ℕ) → match_answer t b field < 256
unfolding match_answer match_refusal
match_low t b field =
    let tests : List (Bool × ℕ) = (eqb (match_refusal t b field) 0, match_refusal t b field)
    ∷ (pages_good b, 25)
    ∷ (entries_match t (column_of t field) 0 (leaf_entries b), 31)
    ∷ [] in
    let low : All Low (match_checks t b field) = all_append Low (table_checks t) _ (table_below t) (lit< tt, (lit< tt, (lit< tt, (lit< tt, tt)))) in
    let before = first_below 256 (match_checks t b field) (lit< tt) low in
    first_below 256 tests (lit< tt) (before, (lit< tt, (lit< tt, tt)))

sheet_low : (t b : List ℕ) (barcodeField field : ℕ) → All Low (sheet_checks t b barcodeField field)
unfolding sheet_checks header_checks field_checks table_refusal
sheet_low t b barcodeField field =
    (first_below 256 (table_checks t) (lit< tt) (table_below t), (lit< tt, (match_low t b barcodeField, (lit< tt, (lit< tt, tt)))))

text_low : (t : List ℕ) (i field : ℕ) (n : Number) → concentration_text t i field ≡ n → number_refusal n < 256
unfolding number_refusal concentration_text
text_low t i field (Ok (Some v)) e = lit< tt
text_low t i field (Ok None) e = lit< tt
text_low t i field (Err n) e = (number-numbered (field_bytes t i field) concentration_decimals n e).1

volumes-small : (c target final : ℕ) → Small (dilution_of c target final)
unfolding dilution_of volume_checks volumes_of
volumes-small c target final = unless-small (volume_checks c target final) (Ok (volumes_of c target final)) (lit< tt, (lit< tt, (lit< tt, tt)))
    (λ good.
    let most = sample-most c target final (ltb-true 0 c good.0) (leb-true target c good.1.1.0) in
    let bounds = range_bounds target final good.1.0 in
    (omega (arith, most, bounds.1), omega (arith, bounds.1)))

dilute_small : (t b : List ℕ) (barcodeField field : ℕ) (barcode : List ℕ) (target final : ℕ) → Small (dilute_rule t b barcodeField field barcode target final)
unfolding dilute_rule record_dilution barcode_checks text_checks
dilute_small t b barcodeField field barcode target final =
    let i = record_with b barcode in
    let said = concentration_text t i field in
    unless-small _ _ (all_append Low (sheet_checks t b barcodeField field) (barcode_checks b barcode)
    (sheet_low t b barcodeField field) (lit< tt, (lit< tt, tt)))
    (λ good. unless-small (text_checks t i field) _ (lit< tt, (lit< tt, (text_low t i field said refl, tt)))
    (λ more. volumes-small (concentration_of said) target final))

-- ---- lengths

number_short : (n k : ℕ) → 1 ≤ k → n < 10 ^ k → length (number_text n) ≤ k + 1
unfolding number_text
number_short n k some l = let short = (decimal-fits n k some).1 l in omega arith

answer-short : (d : Dilution) → Small d → length (answer_text d) ≤ 13
unfolding answer_text
answer-short (Ok v) small =
    let first = number_short v.sample 5 (omega arith) (omega arith) in
    let second = number_short v.diluent 5 (omega arith) (omega arith) in
    omega (arith, length-append (number_text v.sample) (number_text v.diluent ++ (line_feed ∷ [])), length-append (number_text v.diluent) (line_feed ∷ []))
answer-short (Err n) small = omega (arith, number_short n 3 (omega arith) (omega arith), length-append (number_text n) (line_feed ∷ []))

alone-short : (n : ℕ) → n < 256 → length (alone_text n) ≤ 4
unfolding alone_text
alone-short n l = let short = (decimal-fits n 3 (omega arith)).1 (omega arith) in omega (arith, length-append (decimal n) (line_feed ∷ []))

bytes-short : (t : List ℕ) (i field : ℕ) → length (field_bytes t i field) ≤ field_length t (field - 1)
unfolding field_bytes window
bytes-short t i field = simp length-take (omega arith)

module _ (t b : List ℕ) (q : Request) where
  abbrev k : ℕ
  k = field_length t (q.barcode_field - 1)

  line_short : (i : ℕ) → length (record_line t b q i) ≤ k + 13
  unfolding record_line answer_on
  line_short i =
      let barcode = field_bytes t i q.barcode_field in
      let answer = answer_on t b q i in
      let small : Small answer = dilute_small t b q.barcode_field q.field barcode q.target q.final_volume in
      either (eqb (deletion_byte t i) deleted_mark)
      (λ e. rw e (omega arith))
      (λ e. rw e (omega (arith, length-append barcode (answer_text answer), bytes-short t i q.barcode_field, answer-short answer small)))

  lines_short : (left i : ℕ) → length (lines_after t b q i left) ≤ left * (k + 13)
  unfolding lines_after
  lines_short zero i = omega arith
  lines_short (suc left) i =
      let more : suc left * (k + 13) ≡ left * (k + 13) + 1 * (k + 13) = rest left in
      omega (arith, length-append (record_line t b q (i + 1)) (lines_after t b q (i + 1) left), line_short (i + 1), lines_short left (i + 1))
    where
      rest : (n : ℕ) → suc n * (k + 13) ≡ n * (k + 13) + 1 * (k + 13)
      rest n = let e : suc n ≡ n + 1 = omega arith in rw e (add-mul n 1 (k + 13))

  -- a record has its deletion byte and the barcode
  records-short : first_refusal (sheet_checks t b q.barcode_field q.field) ≡ 0 → record_count t * (k + 13) ≤ 7 * length t
  unfolding records_end
  records-short none =
      let m = (sheet_good t b q.barcode_field q.field none).matched in
      let table = layout t (good-table t b q.barcode_field m) in
      let ready = known t b q.barcode_field m in
      let inside = field_inside t table (q.barcode_field - 1) (omega (arith, ready.from, ready.to)) in
      let some = form-some _ _ _ (field_form t table (q.barcode_field - 1) (omega (arith, ready.from, ready.to))) in
      let first = offset-positive t (q.barcode_field - 1) in
      let each : k + 13 ≤ 7 * record_length_of t = omega arith in
      let all = mul-le-mul_left (record_count t) each in
      let turned : record_count t * (7 * record_length_of t) ≡ 7 * (record_count t * record_length_of t) =
      mul_left_comm (record_count t) 7 (record_length_of t) in
      omega (arith, all, turned, table.records)

  request_short : length (request_text t b q) ≤ 7 * length t + 4
  unfolding request_text
  request_short =
      let refusal = first_refusal (sheet_checks t b q.barcode_field q.field) in
      let low = first_below 256 (sheet_checks t b q.barcode_field q.field) (lit< tt) (sheet_low t b q.barcode_field q.field) in
      either (eqb refusal 0)
      (λ e. rw e (omega (arith, lines_short (record_count t) 0, records-short (eqb-true refusal 0 e))))
      (λ e. rw e (omega (arith, alone-short refusal low)))

input_short : (t b : List ℕ) (i : Result Request ℕ) → length (input_text t b i) ≤ 7 * length t + 4
unfolding input_text
input_short t b (Ok q) = request_short t b q
input_short t b (Err n) = omega (arith, alone-short 40 (lit< tt))

-- Theorem: the text of a sheet has at most 7 times the table's bytes, and 4 more
pub sheet_short : (t b s : List ℕ) → length (sheet_text t b s) ≤ 7 * length t + 4
unfolding sheet_text
sheet_short t b s = input_short t b (input_of s)
