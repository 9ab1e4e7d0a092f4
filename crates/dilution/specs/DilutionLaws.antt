-- Laws: the call's answer by the checks that its code makes; a record's answer is what the call gives for its barcode; what an answer with volumes says.
-- Assumes nothing.
use Rattle.std.specs.Prelude.{Ok, ℕ, ◌≤◌, ◌≡◌, Bool, true, List, [], ◌∷◌, ◌++◌, length, eqb, ltb, Err}
use Rattle.std.proofs.Math.Path.{sym}
use Rattle.std.proofs.Common.{◌∙◌, arith}
use borrow.Author.Tests.{eqb-true, eqb-false, eq-eqb, ne_eqb, lt-ltb}
use Rattle.basis.specs.Tests.{impossible, both}
use Rattle.basis.specs.Lists.{All, all_append}
use Rattle.refusal.specs.CheckLaws.{first_pass, first_fail, first-before, Named, first_passes}
use Rattle.refusal.specs.CheckLaws.{unless_pass, unless_fail, unless_append, unless-none, unless-first, unless-cases}
use Rattle.refusal.specs.Checks.{first_refusal, unless}
use Rattle.dbf_table.specs.Table.{field_count, record_count, table_refusal}
use Rattle.dbf_field.specs.Field.{PlaceGood}
use Rattle.dbf_field.specs.FieldLaws.{number-range}
use Rattle.dbf_cell.specs.Cell.{field_bytes}
use Rattle.dbf_cell.specs.Codes.{number_refusal}
use Rattle.idx_page.specs.Header.{key_length, features, good_features, header_good}
use Rattle.idx_match.specs.Computed.{match_answer}
use Rattle.dilution.specs.Dilution.{distinct_index, header_checks}
use Rattle.dilution.specs.Dilution.{is_concentration, field_checks, sheet_checks, record_with, barcode_checks, record_dilution, dilute_rule, Dilutable}
use Rattle.dilution.specs.Dilution.{volumes_of, concentration_text, concentration_of, text_checks, volume_checks, dilution_of}
use Rattle.dilution.specs.BarcodeLaws.{good-table, known, own-length, record_own}
use Rattle.dilution.specs.Dilution.{Dilution}

-- what checks with numbers refuse has a number, if what follows them has
named-after : (checks : List (Bool × ℕ)) (d : Dilution) (n : ℕ) → All Named checks → (d ≡ Err n → n ≡ 0 → ⊥) → unless checks Err d ≡ Err n
    → n ≡ 0 → ⊥
named-after checks d n named after e =
    unless-cases Err d (λ m. m ≡ 0 → ⊥) checks named
    (λ held made. after (sym made ∙ e))
    (λ m some refused. let q : Err m ≡ Err n = sym refused ∙ e in let same : m ≡ n = cc in λ z. some (same ∙ z))

-- ---- the checks of a sheet

module _ (t b : List ℕ) (barcodeField field : ℕ) where
  abbrev checks : List (Bool × ℕ)
  checks = sheet_checks t b barcodeField field

  header-named : All Named (header_checks t b)
  unfolding header_checks
  header-named = ((λ bad e. eqb-false (table_refusal t) 0 bad e), ((λ bad e. omega (arith, e)), tt))

  -- the match and the field
  abbrev later : List (Bool × ℕ)
  later = (eqb (match_answer t b barcodeField) 0, match_answer t b barcodeField) ∷ field_checks t field

  later-named : All Named later
  unfolding field_checks
  later-named = ((λ bad e. eqb-false (match_answer t b barcodeField) 0 bad e), ((λ bad e. omega (arith, e)), ((λ bad e. omega (arith, e)), tt)))

  sheet_named : All Named checks
  unfolding sheet_checks
  sheet_named = all_append Named (header_checks t b) later header-named later-named

  -- the refusal of table and header, if there is one
  pub sheet_unread : (first_refusal (header_checks t b) ≡ 0 → ⊥) → first_refusal checks ≡ first_refusal (header_checks t b)
  unfolding sheet_checks
  sheet_unread some = first-before (header_checks t b) later some

  -- else the match's answer, if it refuses; else the field's
  module _ (read : first_refusal (header_checks t b) ≡ 0) where
    past_header : first_refusal checks ≡ first_refusal later
    unfolding sheet_checks header_checks
    past_header =
        let p = first_passes (header_checks t b) header-named read in
        first_pass _ _ _ p.0 ∙ first_pass _ _ _ p.1.0

    pub sheet_unmatched : (match_answer t b barcodeField ≡ 0 → ⊥) → first_refusal checks ≡ match_answer t b barcodeField
    sheet_unmatched some = past_header ∙ first_fail _ _ _ (ne_eqb (match_answer t b barcodeField) 0 some)

    pub sheet_matched : match_answer t b barcodeField ≡ 0 → first_refusal checks ≡ first_refusal (field_checks t field)
    sheet_matched none = past_header ∙ first_pass _ _ _ (eq-eqb (match_answer t b barcodeField) 0 none)

  -- what holds if none refuses: the index has one record to a key, table and index match, and the concentration's field is one of the table's, N with three
  -- decimals
  pub record SheetGood : Type 0 where
    pub distinct : features b ≡ good_features
    pub matched : match_answer t b barcodeField ≡ 0
    pub number : (1 ≤ field) × (field ≤ field_count t)
    pub concentration : is_concentration t field ≡ true

  module _ (none : first_refusal checks ≡ 0) where
    passes : All (λ check. check.0 ≡ true) checks
    passes = first_passes checks sheet_named none

    pub sheet_good : SheetGood
    unfolding sheet_checks header_checks distinct_index field_checks
    sheet_good =
        let late = passes.1.1 in
        record {
          distinct = eqb-true (features b) good_features (both (header_good b) (eqb (features b) good_features) passes.1.0).1;
          matched = eqb-true (match_answer t b barcodeField) 0 late.0;
          number = number-range field (field_count t) late.1.0;
          concentration = late.1.1.0;
        }

    -- each record of the table then has a barcode, and may be diluted
    pub sheet_barcode : (i : ℕ) → 1 ≤ i → i ≤ record_count t → PlaceGood t i barcodeField
    sheet_barcode i from to = record {
      table = good-table t b barcodeField sheet_good.matched;
      record-from = from;
      record_to = to;
      field_from = (known t b barcodeField sheet_good.matched).from;
      field_to = (known t b barcodeField sheet_good.matched).to;
    }

    pub sheet_dilutable : (i : ℕ) → 1 ≤ i → i ≤ record_count t → Dilutable t i field
    sheet_dilutable i from to = record {
      place = record {
        table = good-table t b barcodeField sheet_good.matched;
        record-from = from;
        record_to = to;
        field_from = sheet_good.number.0;
        field_to = sheet_good.number.1;
      };
      concentration = sheet_good.concentration;
    }

  module _ (barcode : List ℕ) (target final : ℕ) where
    abbrev answer : Dilution
    answer = dilute_rule t b barcodeField field barcode target final

    abbrev on_record : Dilution
    on_record = record_dilution t (record_with b barcode) field target final

    -- ---- the call's answer

    pub dilute_refused : (first_refusal checks ≡ 0 → ⊥) → answer ≡ Err (first_refusal checks)
    unfolding dilute_rule
    dilute_refused some = unless_append Err on_record checks (barcode_checks b barcode) ∙ unless-first Err _ checks some

    module _ (none : first_refusal checks ≡ 0) where
      after_sheet : answer ≡ unless (barcode_checks b barcode) Err on_record
      unfolding dilute_rule
      after_sheet = unless_append Err on_record checks (barcode_checks b barcode) ∙ unless-none Err _ checks (passes none)

      pub dilute_27 : (length barcode ≡ key_length b → ⊥) → answer ≡ Err 27
      unfolding barcode_checks
      dilute_27 h = after_sheet ∙ unless_fail Err _ _ _ _ (ne_eqb (length barcode) (key_length b) h)

      module _ (len : length barcode ≡ key_length b) (i : ℕ) (is : i ≡ record_with b barcode) where
        after-length : answer ≡ unless ((ltb 0 (record_with b barcode), 35) ∷ []) Err on_record
        unfolding barcode_checks
        after-length = after_sheet ∙ unless_pass Err _ _ _ _ (eq-eqb (length barcode) (key_length b) len)

        pub dilute_absent : i ≡ 0 → answer ≡ Err 35
        unfolding unless
        dilute_absent e = let None-found : record_with b barcode ≡ 0 = sym is ∙ e in after-length ∙ rw None-found

        pub dilute_record : (i ≡ 0 → ⊥) → answer ≡ record_dilution t i field target final
        unfolding unless
        dilute_record some = after-length ∙ rw (lt-ltb 0 (record_with b barcode) (omega (arith, some, is)), is)

  -- ---- a record's answer

  -- Theorem: on a sheet that is not refused, the answer of a record is what the call gives for the record's barcode
  pub record-line : first_refusal checks ≡ 0 → (i target final : ℕ) → 1 ≤ i → i ≤ record_count t
      → record_dilution t i field target final ≡ dilute_rule t b barcodeField field (field_bytes t i barcodeField) target final
  record-line none i target final from to =
      let m = (sheet_good none).matched in
      let own = record_own t b barcodeField m (sheet_good none).distinct i from to in
      let len = own-length t b barcodeField m i from to in
      sym (dilute_record (field_bytes t i barcodeField) target final none len i (sym own) (λ e. omega (arith, from, e)))

  -- Theorem: a refusal is a number above 0
  pub dilute_numbered : (barcode : List ℕ) (target final n : ℕ) → dilute_rule t b barcodeField field barcode target final ≡ Err n → n ≡ 0 → ⊥
  unfolding dilute_rule record_dilution dilution_of barcode_checks text_checks volume_checks volumes_of
  dilute_numbered barcode target final n e =
      let i = record_with b barcode in
      let text = number_refusal (concentration_text t i field) in
      let c = concentration_of (concentration_text t i field) in
      named-after (checks ++ barcode_checks b barcode) (record_dilution t i field target final) n
      (all_append Named checks (barcode_checks b barcode) sheet_named ((λ bad q. omega (arith, q)), ((λ bad q. omega (arith, q)), tt)))
      (named-after (text_checks t i field) (dilution_of c target final) n
      ((λ bad q. omega (arith, q)), ((λ bad q. omega (arith, q)), ((λ bad q. eqb-false text 0 bad q), tt)))
      (named-after (volume_checks c target final) (Ok (volumes_of c target final)) n
      ((λ bad q. omega (arith, q)), ((λ bad q. omega (arith, q)), ((λ bad q. omega (arith, q)), tt)))
      (λ q z. impossible (cc))))
      e
