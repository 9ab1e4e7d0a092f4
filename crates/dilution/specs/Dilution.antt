-- Rules: the dilution of one barcode, document 02, K11: "from barcode, target concentration (thousandths of nM, as the CONC field with three decimals) and
-- final volume (tenths of a microlitre, 1 to 10,000), give the sample volume in tenths." The call `dilute` cites `dilute_rule`.
use Rattle.std.specs.Prelude.{ℕ, ◌+◌, ◌*◌, ◌-◌, ◌/◌, ◌≡◌, Bool, true, not, ◌&&◌, List, [], ◌∷◌, ◌++◌, length, eqb, leb, ltb, ℤ, pos, negsuc, Result, Err, None, Ok, Some}
use Rattle.refusal.specs.Checks.{unless}
use Rattle.numeral.specs.Reading.{read_number}
use Rattle.numeral.specs.Format.{Number}
use Rattle.dbf_table.specs.Table.{type_n, deleted_mark, field_type, field_decimals, field_count, deletion_byte, table_refusal}
use Rattle.dbf_field.specs.Field.{number_good, PlaceGood}
use Rattle.dbf_cell.specs.Cell.{mark_good, field_bytes}
use Rattle.dbf_cell.specs.Codes.{number_refusal}
use Rattle.idx_page.specs.Header.{key_length, features, good_features, header_good}
use Rattle.idx_lookup.specs.Lookup.{lookup_rule, answer_record}
use Rattle.idx_match.specs.Computed.{match_answer}
use Rattle.dilution.specs.declared.Volumes.{Volumes}

-- ---- the volumes

abbrev pub volumes : ℕ → ℕ → Volumes
volumes sample diluent = record { sample = sample; diluent = diluent }

-- what the dilution of a sample says: the volumes, or a refusal's number
abbrev pub Dilution : Type 0
Dilution = Result Volumes ℕ

-- "It is target × final ÷ concentration, to the nearest tenth, halves up": c is the concentration
unfoldable pub sample_of : ℕ → ℕ → ℕ → ℕ
sample_of c target final = (2 * target * final + c) / (2 * c)

-- "Sample and diluent add to the final volume."
unfoldable pub volumes_of : ℕ → ℕ → ℕ → Volumes
volumes_of c target final = volumes (sample_of c target final) (final - sample_of c target final)

-- "Target is 1 to 1,000,000,000"; "final volume (tenths of a microlitre, 1 to 10,000)"
abbrev pub max_target : ℕ
max_target = 1000000000

abbrev pub max_final : ℕ
max_final = 10000

unfoldable pub in_range : ℕ → ℕ → Bool
in_range target final = leb 1 target && leb target max_target && leb 1 final && leb final max_final

-- ---- the concentration

-- "thousandths of nM, as the CONC field with three decimals"
abbrev pub concentration_decimals : ℕ
concentration_decimals = 3

-- what the concentration's field of record i says
unfoldable pub concentration_text : List ℕ → ℕ → ℕ → Number
concentration_text t i field = read_number (field_bytes t i field) concentration_decimals

-- the concentration in thousandths of nM; "empty, zero or negative" is none, 0
unfoldable pub amount_of : ℤ → ℕ
amount_of (pos c) = c
amount_of (negsuc n) = 0

unfoldable pub concentration_of : Number → ℕ
concentration_of (Ok (Some v)) = amount_of v
concentration_of (Ok None) = 0
concentration_of (Err n) = 0

-- ---- the checks, each beside its refusal, in the paper's order

-- "12, and 13 unless the concentration's field is N with three decimals"
unfoldable pub is_concentration : List ℕ → ℕ → Bool
is_concentration t field = eqb (field_type t (field - 1)) type_n && eqb (field_decimals t (field - 1)) concentration_decimals

unfoldable pub field_checks : List ℕ → ℕ → List (Bool × ℕ)
field_checks t field = (number_good field (field_count t), 12) ∷ (is_concentration t field, 13) ∷ []

-- "Refusal 24 admits 0 and 1, in K11 only 1": one record to a barcode
unfoldable pub distinct_index : List ℕ → Bool
distinct_index b = header_good b && eqb (features b) good_features

-- the match's first checks, "table checks, index header", with that
unfoldable pub header_checks : List ℕ → List ℕ → List (Bool × ℕ)
header_checks t b = (eqb (table_refusal t) 0, table_refusal t) ∷ (distinct_index b, 24) ∷ []

-- "table and index match; 12, and 13 ..": the checks of a whole sheet
unfoldable pub sheet_checks : List ℕ → List ℕ → ℕ → ℕ → List (Bool × ℕ)
sheet_checks t b barcodeField field =
    let answer = match_answer t b barcodeField in
    header_checks t b ++ ((eqb answer 0, answer) ∷ field_checks t field)

-- the record that has the barcode, by lookup's steps; 0 if there is none
unfoldable pub record_with : List ℕ → List ℕ → ℕ
record_with b barcode = answer_record (lookup_rule b barcode) 0

-- "barcode of the wrong length 27; absent 35"
unfoldable pub barcode_checks : List ℕ → List ℕ → List (Bool × ℕ)
barcode_checks b barcode = (eqb (length barcode) (key_length b), 27) ∷ (ltb 0 (record_with b barcode), 35) ∷ []

-- "15; its record deleted 35; 16 to 18 by its text"
unfoldable pub text_checks : List ℕ → ℕ → ℕ → List (Bool × ℕ)
text_checks t i field =
    let refusal = number_refusal (concentration_text t i field) in
    (mark_good (deletion_byte t i), 15) ∷ (not (eqb (deletion_byte t i) deleted_mark), 35) ∷ (eqb refusal 0, refusal) ∷ []

-- "concentration empty, zero or negative 36; target or final out of range 37; target above concentration 38"
unfoldable pub volume_checks : ℕ → ℕ → ℕ → List (Bool × ℕ)
volume_checks c target final = (ltb 0 c, 36) ∷ (in_range target final, 37) ∷ (leb target c, 38) ∷ []

-- ---- the answer

-- the dilution of a sample of concentration c
unfoldable pub dilution_of : ℕ → ℕ → ℕ → Dilution
dilution_of c target final = unless (volume_checks c target final) Err (Ok (volumes_of c target final))

-- the dilution of record i
unfoldable pub record_dilution : List ℕ → ℕ → ℕ → ℕ → ℕ → Dilution
record_dilution t i field target final = unless (text_checks t i field) Err (dilution_of (concentration_of (concentration_text t i field)) target final)

-- the dilution of a barcode: "Checks: table and index match; 12, and 13 ..; 27; absent 35; 15; .." and then the volumes
unfoldable pub dilute_rule : List ℕ → List ℕ → ℕ → ℕ → List ℕ → ℕ → ℕ → Dilution
dilute_rule t b barcodeField field barcode target final =
    unless (sheet_checks t b barcodeField field ++ barcode_checks b barcode) Err (record_dilution t (record_with b barcode) field target final)

-- an answer's number: 0 for volumes, or the refusal's
unfoldable pub dilution_code : Dilution → ℕ
dilution_code (Ok v) = 0
dilution_code (Err n) = n

-- ---- Steps: what the call for one record of a table that was checked asks; who calls by a barcode need not believe it

pub record Dilutable (t : List ℕ) (i field : ℕ) : Type 0 where
  pub place : PlaceGood t i field
  pub concentration : is_concentration t field ≡ true
