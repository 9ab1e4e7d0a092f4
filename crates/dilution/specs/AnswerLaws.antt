-- Laws: what an answer with volumes says, for who pipettes by it. No proof of the code cites them: they are for readers of the rule. Assumes nothing.
use Rattle.std.specs.Prelude.{ℕ, ◌+◌, ◌*◌, ◌-◌, ◌≤◌, ◌<◌, ◌≡◌, refl, Bool, true, List, ◌++◌, length, eqb, pos, negsuc, Err, None, Ok, Some}
use Rattle.std.proofs.Common.{sym, ◌∙◌, arith, ap}
use borrow.Author.Tests.{eqb-true, leb-true, ltb-true, not-true}
use Rattle.basis.specs.Tests.{both, or_left, impossible}
use Rattle.basis.specs.Lists.{All, all_left, all_right}
use Rattle.refusal.specs.CheckLaws.{refuses_any, unless-cases}
use Rattle.refusal.specs.Checks.{unless}
use Rattle.numeral.specs.Format.{Number}
use Rattle.dbf_table.specs.Table.{kept_mark, deleted_mark, record_count, deletion_byte}
use Rattle.dbf_cell.specs.Cell.{field_bytes}
use Rattle.idx_match.specs.Match.{Matched}
use Rattle.idx_match.specs.Computed.{match_answer}
use Rattle.idx_match.proofs.AnswerLaws.{answer-computed}
use Rattle.idx_page.specs.Header.{features, good_features, header_good}
use Rattle.dilution.specs.Dilution.{sample_of, volumes_of, concentration_text, amount_of, concentration_of, distinct_index, header_checks, sheet_checks}
use Rattle.dilution.specs.Dilution.{record_with, barcode_checks, text_checks, volume_checks, dilution_of, record_dilution, dilute_rule}
use Rattle.dilution.specs.VolumeLaws.{NearestTenth, sample-nearest, sample-most}
use Rattle.dilution.specs.BarcodeLaws.{record_named}
use Rattle.dilution.specs.Dilution.{Dilution, volumes}

-- the volumes for a barcode stand for a record of a table that matches its index
pub record Diluted (t b : List ℕ) (barcodeField field : ℕ) (barcode : List ℕ) (target final sample diluent : ℕ) : Type 0 where
  pub matched : Matched t b barcodeField 0
  -- the record has the barcode, and is marked as kept
  pub number : ℕ
  pub range : (1 ≤ number) × (number ≤ record_count t)
  pub named : field_bytes t number barcodeField ≡ barcode
  pub kept : deletion_byte t number ≡ kept_mark
  -- its concentration is a number, at or above the target
  pub concentration : ℕ
  pub read : concentration_text t number field ≡ Ok (Some (pos concentration))
  pub enough : target ≤ concentration
  -- the sample is the nearest tenth, and both volumes add to the final one
  pub nearest : NearestTenth concentration (target * final) sample
  pub sum : sample + diluent ≡ final

-- volumes are answered if all checks pass
passed-all : (checks : List (Bool × ℕ)) (d : Dilution) (s m : ℕ) → unless checks Err d ≡ Ok (volumes s m)
    → All (λ check. check.0 ≡ true) checks × (d ≡ Ok (volumes s m))
passed-all checks d s m e =
    unless-cases Err d (λ n. Unit {0}) checks (refuses_any checks)
    (λ held made. (held, sym made ∙ e))
    (λ n any refused. let q : Err n ≡ Ok (volumes s m) = sym refused ∙ e in impossible (cc))

-- a concentration above 0 is a number's
some-concentration : (n : Number) → 0 < concentration_of n → n ≡ Ok (Some (pos (concentration_of n)))
unfolding concentration_of amount_of
some-concentration (Ok (Some (pos c))) l = refl
some-concentration (Ok (Some (negsuc c))) l = absurd (omega arith)
some-concentration (Ok None) l = absurd (omega arith)
some-concentration (Err n) l = absurd (omega arith)

-- the two volumes of an answer
abbrev drawn_in : Dilution → ℕ
drawn_in (Ok v) = v.sample
drawn_in (Err n) = 0

abbrev added_in : Dilution → ℕ
added_in (Ok v) = v.diluent
added_in (Err n) = 0

abbrev told : ℕ → ℕ → Dilution
told x y = Ok (volumes x y)

module _ (t b : List ℕ) (barcodeField field : ℕ) (barcode : List ℕ) (target final sample diluent : ℕ) where
  -- Theorem: volumes are given for the live record of that barcode alone, by its own concentration
  pub volumes_say : dilute_rule t b barcodeField field barcode target final ≡ Ok (volumes sample diluent)
      → Diluted t b barcodeField field barcode target final sample diluent
  unfolding dilute_rule record_dilution dilution_of sheet_checks header_checks distinct_index barcode_checks text_checks volume_checks volumes_of
  volumes_say e =
      let i = record_with b barcode in
      let said = concentration_text t i field in
      let c = concentration_of said in
      let first = passed-all (sheet_checks t b barcodeField field ++ barcode_checks b barcode) (record_dilution t i field target final) sample diluent e in
      let sheet = all_left (λ x. x.0 ≡ true) (sheet_checks t b barcodeField field) (barcode_checks b barcode) first.0 in
      let code = all_right (λ x. x.0 ≡ true) (sheet_checks t b barcodeField field) (barcode_checks b barcode) first.0 in
      let second = passed-all (text_checks t i field) (dilution_of c target final) sample diluent first.1 in
      let third = passed-all (volume_checks c target final) (Ok (volumes_of c target final)) sample diluent second.1 in
      let match = eqb-true (match_answer t b barcodeField) 0 sheet.1.1.0 in
      let one = eqb-true (features b) good_features (both (header_good b) (eqb (features b) good_features) sheet.1.0).1 in
      let found = record_named t b barcodeField match one barcode (eqb-true (length barcode) _ code.0) (ltb-true 0 i code.1.0) in
      let live = or_left (eqb (deletion_byte t i) kept_mark) (eqb (deletion_byte t i) deleted_mark) second.0.0 (not-true _ second.0.1.0) in
      let some = ltb-true 0 c third.0.0 in
      let enough = leb-true target c third.0.1.1.0 in
      let drawn : sample_of c target final ≡ sample = drawn_is third.1 in
      let added : final - sample_of c target final ≡ diluent = added_is third.1 in
      let most = sample-most c target final some enough in
      record {
        matched = (answer-computed t b barcodeField 0).1 (sym match);
        number = i;
        range = (found.0, found.1);
        named = found.2;
        kept = eqb-true _ _ live;
        concentration = c;
        read = some-concentration said some;
        enough = enough;
        nearest = rw drawn at (sample-nearest c target final some);
        sum = omega arith;
      }
    where
      drawn_is : {x y : ℕ} → told x y ≡ told sample diluent → x ≡ sample
      drawn_is q = ap drawn_in q

      added_is : {x y : ℕ} → told x y ≡ told sample diluent → y ≡ diluent
      added_is q = ap added_in q
