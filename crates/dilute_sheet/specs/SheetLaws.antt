-- Laws: a number's decimal text by the library's writer; the lines of the records, one after another; a record's line by the record's own answer. Assumes
-- nothing.
use Prim.Native.Nat.{ℕ, suc, ◌+◌, ◌-◌, ◌^◌, ◌≤◌, ◌<◌}
use Rattle.std.specs.Prelude.{◌≡◌, refl, true, List, [], ◌∷◌, ◌++◌, length, take, drop, ℤ, pos}
use Rattle.std.proofs.Common.{sym, ap, ◌∙◌, append-nil, div-one, length-drop, take_all, ne_eqb}
use native.Mathlib.Omega.{arith}
use Rattle.basis.specs.Tests.{both}
use Rattle.refusal.specs.After.{After, left}
use Rattle.refusal.specs.Checks.{first_refusal}
use Rattle.refusal.specs.After.{Change}
use Rattle.octets.specs.Text.{every, is_digit, unpadded, decimal}
use Rattle.octets.specs.TextLaws.{unpadded_digit, unpadded_blanks}
use Rattle.octets.specs.DigitLaws.{decimal-digits, decimal-fits}
use Rattle.numeral.specs.Format.{format_good}
use Rattle.numeral.specs.Writing.{number_text, sign_text, fraction_text, written, Fits, write_number}
use Rattle.numeral.specs.WritingLaws.{written-exactly, fits-length}
use Rattle.dbf_table.specs.Table.{deleted_mark, record_count, deletion_byte}
use Rattle.dbf_field.specs.Field.{entry_of, place_at}
use Rattle.dbf_field.specs.declared.Place.{Place}
use Rattle.dbf_cell.specs.Cell.{field_start, field_bytes}
use Rattle.dbf_cell.specs.CellLaws.{part-window}
use Rattle.dilution.specs.Dilution.{sheet_checks, record_dilution}
use Rattle.dilution.specs.DilutionLaws.{record-line}
use Rattle.dilute_sheet.specs.declared.input.Request.{Request}
use Rattle.dilute_sheet.specs.Sheet.{answer_text, answer_on, record_line, lines_after, request_text, alone_text}

-- ---- a number in decimal

digits-unpadded : (s : List ℕ) → every is_digit s ≡ true → unpadded s ≡ s
unfolding unpadded every
digits-unpadded [] e = refl
digits-unpadded (c ∷ s) e = unpadded_digit c s (both (is_digit c) (every is_digit s) e).0

-- without decimals and sign, a value's text is its digits
whole_text : (n : ℕ) → number_text 0 (pos n) ≡ decimal n
unfolding number_text sign_text fraction_text
whole_text n = rw div-one (append-nil (decimal n))

number_fits : (width n : ℕ) → width ≡ 10 → n < 2 ^ 32 → Fits width 0 (pos n)
unfolding format_good
number_fits width n len small =
    let short : length (decimal n) ≤ 10 = (decimal-fits n 10 (omega arith)).1 (omega arith) in
    let long : length (number_text 0 (pos n)) ≡ length (decimal n) = ap length (whole_text n) in
    record { format = rw len; small = omega arith; room = omega arith }

unpadded-written : (width n : ℕ) → unpadded (written width 0 (pos n)) ≡ decimal n
unfolding written
unpadded-written width n =
    unpadded_blanks (width - length (number_text 0 (pos n))) (number_text 0 (pos n)) ∙ rw (whole_text n) (digits-unpadded (decimal n) (decimal-digits n))

-- what the writer leaves in ten bytes is the number's digits behind blanks
pub decimal-written : (text after : List ℕ) (a : Change) (n : ℕ) (v : ℤ) → length text ≡ 10 → n < 2 ^ 32 → v ≡ pos n
    → write_number text 0 v ≡ left after a → (length after ≡ 10) × (unpadded after ≡ decimal n)
decimal-written text after a n v len small is e =
    let fits = number_fits (length text) n len small in
    let said = (written-exactly text (written (length text) 0 (pos n)) 0 (pos n)).1 (fits, refl) in
    let same : after ≡ written (length text) 0 (pos n) = ap (λ (o : After Change). o.after) (sym (rw is at e) ∙ said) in
    rw same (fits-length (length text) 0 (pos n) fits ∙ len, unpadded-written (length text) n)

-- the part behind the blanks
pub decimal-part : (after : List ℕ) (from n : ℕ) → (length after ≡ 10) × (unpadded after ≡ decimal n) → drop from after ≡ unpadded after
    → take (10 - from) (drop from after) ≡ decimal n
decimal-part after from n digits e =
    let long : length (drop from after) ≡ length after - from = length-drop from after in
    take_all (10 - from) (drop from after) (omega (arith, digits.0)) ∙ e ∙ digits.1

-- ---- the lines of the records

module _ (t b : List ℕ) (q : Request) (n i : ℕ) where
  pub lines_more : i < n → lines_after t b q i (n - i) ≡ record_line t b q (i + 1) ++ lines_after t b q (i + 1) (n - (i + 1))
  unfolding lines_after
  lines_more l = let e : n - i ≡ suc (n - (i + 1)) = omega arith in rw e

  pub lines_end : n ≤ i → lines_after t b q i (n - i) ≡ []
  unfolding lines_after
  lines_end l = let e : n - i ≡ 0 = omega arith in rw e

-- ---- one record

module _ (t b : List ℕ) (q : Request) (i : ℕ) where
  pub line_deleted : deletion_byte t i ≡ deleted_mark → record_line t b q i ≡ []
  unfolding record_line
  line_deleted e = rw e

  pub line_kept : first_refusal (sheet_checks t b q.barcode_field q.field) ≡ 0 → 1 ≤ i → i ≤ record_count t → (deletion_byte t i ≡ deleted_mark → ⊥)
      → record_line t b q i ≡ field_bytes t i q.barcode_field ++ answer_text (record_dilution t i q.field q.target q.final_volume)
  unfolding record_line answer_on
  line_kept none from to kept =
      rw (ne_eqb (deletion_byte t i) deleted_mark kept, record-line t b q.barcode_field q.field none i q.target q.final_volume from to)

-- the field's bytes at its place
pub placed-bytes : (t : List ℕ) (i field : ℕ) (p : Place) → p ≡ place_at t i field
    → take (p.start + p.length - p.start) (drop p.start t) ≡ field_bytes t i field
unfolding place_at entry_of field_bytes field_start
placed-bytes t i field p e = part-window t p.start p.length ∙ rw e

-- ---- a request

module _ (t b : List ℕ) (q : Request) where
  abbrev refusal : ℕ
  refusal = first_refusal (sheet_checks t b q.barcode_field q.field)

  pub request_refused : (refusal ≡ 0 → ⊥) → request_text t b q ≡ alone_text refusal
  unfolding request_text
  request_refused some = rw (ne_eqb refusal 0 some)

  pub request_lines : refusal ≡ 0 → request_text t b q ≡ lines_after t b q 0 (record_count t)
  unfolding request_text
  request_lines none = rw none
