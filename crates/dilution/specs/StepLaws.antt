-- Laws: how the tests that the code makes meet the checks of the rule. The proofs of this crate's functions cite them. Assumes nothing.
use Rattle.std.specs.Prelude.{Ok, ℕ, zero, suc, ◌-◌, ◌≤◌, ◌<◌, ◌≡◌, refl, Bool, true, false, cond, not, ◌&&◌, List, [], ◌∷◌, eqb, leb, ltb, ℤ, pos, negsuc, nat_abs, Err, Some}
use Rattle.std.proofs.Math.Path.{sym, ap}
use Rattle.std.proofs.Common.{◌∙◌, arith, lit<}
use Rattle.std.proofs.lemmas.Bool.{eqb-false}
use Rattle.std.specs.Int.Signed.{lt_z}
use borrow.Author.Tests.{eqb-true, eq-eqb, ne_eqb, leb-true, lt-ltb, le-leb, lt-leb, ltb-true}
use Rattle.basis.specs.Tests.{either, impossible, both, contra}
use Rattle.refusal.specs.CheckLaws.{first_pass, first_fail, first-after, first-before}
use Rattle.refusal.specs.Checks.{first_refusal, unless}
use Rattle.octets.specs.Store.{window}
use Rattle.numeral.specs.Reading.{read_number}
use Rattle.numeral.specs.Format.{Number}
use Rattle.dbf_table.specs.Table.{type_n, deleted_mark, field_type, field_decimals, field_count, deletion_byte, table_checks, table_refusal, check_table}
use Rattle.dbf_table.specs.TableLaws.{table-numbered, refused_check, good_shape}
use Rattle.dbf_table.specs.declared.Shape.{Shape}
use Rattle.dbf_field.specs.Field.{FieldAnswer, number_good, entry_of, place_at, field_refusal, field_answer}
use Rattle.dbf_field.specs.declared.FieldEntry.{FieldEntry}
use Rattle.dbf_field.specs.declared.Place.{Place}
use Rattle.dbf_cell.specs.Cell.{mark_good, field_start, field_bytes}
use Rattle.dbf_cell.specs.Codes.{number_refusal}
use Rattle.idx_page.specs.Header.{features, good_features, header_good}
use Rattle.idx_page.specs.HeaderLaws.{good-header}
use Rattle.dilution.specs.Dilution.{distinct_index, header_checks}
use Rattle.dilution.specs.Dilution.{max_target, max_final, volumes_of, in_range, concentration_decimals, concentration_text, amount_of}
use Rattle.dilution.specs.Dilution.{concentration_of, is_concentration, field_checks, text_checks, volume_checks, dilution_of, record_dilution}

-- ---- table and header

one_record : (f : ℕ) → f ≤ 1 → not (eqb f 0) ≡ eqb f good_features
one_record zero h = refl
one_record (suc zero) h = refl
one_record (suc (suc f)) h = absurd (omega arith)

pub distinct-bad : (b : List ℕ) → header_good b ≡ false → false ≡ distinct_index b
unfolding distinct_index
distinct-bad b h = rw h

pub distinct-tested : (b : List ℕ) (several : Bool) → header_good b ≡ true → several ≡ eqb (features b) 0 → not several ≡ distinct_index b
unfolding distinct_index
distinct-tested b several h e = rw (h, e) (one_record (features b) (good-header b h).plain)

pub header-table : (t b : List ℕ) (n : ℕ) → check_table t ≡ Err n → n ≡ first_refusal (header_checks t b)
unfolding header_checks
header-table t b n e =
    let said = refused_check t n e in
    said.0 ∙ sym (first_fail _ _ _ (ne_eqb (table_refusal t) 0 (λ z. said.1 (said.0 ∙ z))))

module _ (t b : List ℕ) (s : Shape) (e : check_table t ≡ Ok s) where
  past_table : first_refusal (header_checks t b) ≡ cond (distinct_index b) 0 24
  unfolding header_checks first_refusal
  past_table = first_pass (eqb (table_refusal t) 0) (table_refusal t) ((distinct_index b, 24) ∷ []) (eq-eqb (table_refusal t) 0 (good_shape t s e).table)

  pub header-one : distinct_index b ≡ true → 0 ≡ first_refusal (header_checks t b)
  header-one d = sym (past_table ∙ rw d)

  pub header_24 : distinct_index b ≡ false → 24 ≡ first_refusal (header_checks t b)
  header_24 d = sym (past_table ∙ rw d)

-- ---- the concentration's field

-- an answer about a field is one entry, or one number
not-refused : {X : Type 0} (r : FieldAnswer) (a : FieldEntry) (n : ℕ) → r ≡ Ok a → r ≡ Err n → X
not-refused r a n e f = let q : r ≡ Err n = f in impossible (cc)

same-entry : (r : FieldAnswer) (a b : FieldEntry) → r ≡ Ok a → r ≡ Ok b → a ≡ b
same-entry r a b e f = cc

same-number : (r : FieldAnswer) (m n : ℕ) → r ≡ Err m → r ≡ Err n → m ≡ n
same-number r m n e f = cc

module _ (t : List ℕ) (field : ℕ) (good : table_refusal t ≡ 0) where
  abbrev number : List (Bool × ℕ)
  number = (number_good field (field_count t), 12) ∷ []

  field_number : field_refusal t field ≡ first_refusal number
  unfolding field_refusal table_refusal
  field_number = first-after (table_checks t) number (table-numbered t) good

  listed-here : eqb (field_refusal t field) 0 ≡ true → field_answer t field ≡ Ok (entry_of t (field - 1))
  unfolding field_answer
  listed-here e = rw e

  listed-not : eqb (field_refusal t field) 0 ≡ false → field_answer t field ≡ Err (field_refusal t field)
  unfolding field_answer
  listed-not e = rw e

  pub field_12 : (n : ℕ) → field_answer t field ≡ Err n → n ≡ first_refusal (field_checks t field)
  unfolding field_checks
  field_12 n e =
      either (eqb (field_refusal t field) 0)
      (λ none. not-refused _ _ n (listed-here none) e)
      (λ some.
      sym (same-number _ _ n (listed-not some) e)
      ∙ (field_number ∙ sym (first-before number ((is_concentration t field, 13) ∷ []) (λ z. eqb-false _ _ some (field_number ∙ z)))))

  module _ (entry : FieldEntry) (given : field_answer t field ≡ Ok entry) where
    listed : (field_refusal t field ≡ 0) × (entry_of t (field - 1) ≡ entry)
    listed =
        either (eqb (field_refusal t field) 0)
        (λ none. (eqb-true _ _ none, same-entry _ _ entry (listed-here none) given))
        (λ some. not-refused _ entry _ given (listed-not some))

    after-number : first_refusal (field_checks t field) ≡ cond (is_concentration t field) 0 13
    unfolding field_checks first_refusal
    after-number = first-after number ((is_concentration t field, 13) ∷ []) (lit< tt, tt) (sym field_number ∙ listed.0)

    -- by the entry's type and decimals
    pub field_tested : first_refusal (field_checks t field) ≡ cond (eqb entry.kind type_n && eqb entry.decimals concentration_decimals) 0 13
    unfolding is_concentration entry_of
    field_tested =
        let kind : field_type t (field - 1) ≡ entry.kind = ap (λ (e : FieldEntry). e.kind) listed.1 in
        let decimals : field_decimals t (field - 1) ≡ entry.decimals = ap (λ (e : FieldEntry). e.decimals) listed.1 in
        after-number ∙ rw (kind, decimals)

-- ---- 36, 37, 38, the volumes

module _ (c target final : ℕ) where
  pub refused_36 : c ≡ 0 → dilution_of c target final ≡ Err 36
  unfolding dilution_of volume_checks unless
  refused_36 e = rw e

  module _ (some : c ≡ 0 → ⊥) where
    positive : ltb 0 c ≡ true
    positive = lt-ltb 0 c (omega (arith, some))

    pub refused_37 : in_range target final ≡ false → dilution_of c target final ≡ Err 37
    unfolding dilution_of volume_checks unless
    refused_37 e = rw (positive, e)

    module _ (ranged : in_range target final ≡ true) where
      pub refused_38 : c < target → dilution_of c target final ≡ Err 38
      unfolding dilution_of volume_checks unless
      refused_38 l = rw (positive, ranged, lt-leb target c l)

      pub diluted : target ≤ c → dilution_of c target final ≡ Ok (volumes_of c target final)
      unfolding dilution_of volume_checks unless
      diluted l = rw (positive, ranged, le-leb target c l)

pub range_bounds : (target final : ℕ) → in_range target final ≡ true → (target ≤ max_target) × (final ≤ max_final)
unfolding in_range
range_bounds target final e =
    let final-to = both (leb 1 target && leb target max_target && leb 1 final) (leb final max_final) e in
    let final-from = both (leb 1 target && leb target max_target) (leb 1 final) final-to.0 in
    let target_to = both (leb 1 target) (leb target max_target) final-from.0 in
    (leb-true target max_target target_to.1, leb-true final max_final final-to.1)

-- ---- a value as a concentration

pub amount_none : (v : ℤ) → lt_z v (pos 0) ≡ true → amount_of v ≡ 0
unfolding amount_of
amount_none (pos n) e = absurd (omega (arith, ltb-true n 0 e))
amount_none (negsuc n) e = refl

pub amount_some : (v : ℤ) → lt_z v (pos 0) ≡ false → amount_of v ≡ nat_abs v
unfolding amount_of
amount_some (pos n) e = refl
amount_some (negsuc n) e = contra refl e

pub value_read : (n : Number) (v : ℤ) (r : ℕ) → n ≡ Ok (Some v) → r ≡ amount_of v → r ≡ concentration_of n
unfolding concentration_of
value_read n v r e h = rw e h

-- ---- a record: 15, 35, 16 to 18, and then by the concentration

module _ (t : List ℕ) (i field target final : ℕ) where
  pub refused_15 : mark_good (deletion_byte t i) ≡ false → record_dilution t i field target final ≡ Err 15
  unfolding record_dilution text_checks unless
  refused_15 e = rw e

  module _ (mark : mark_good (deletion_byte t i) ≡ true) where
    pub refused_deleted : deletion_byte t i ≡ deleted_mark → record_dilution t i field target final ≡ Err 35
    unfolding record_dilution text_checks unless
    refused_deleted e = rw e

    module _ (kept : deletion_byte t i ≡ deleted_mark → ⊥) where
      abbrev refusal : ℕ
      refusal = number_refusal (concentration_text t i field)

      pub refused_text : (refusal ≡ 0 → ⊥) → record_dilution t i field target final ≡ Err refusal
      unfolding record_dilution text_checks unless
      refused_text some = rw (mark, ne_eqb (deletion_byte t i) deleted_mark kept, ne_eqb refusal 0 some)

      pub text_read : refusal ≡ 0 → record_dilution t i field target final ≡ dilution_of (concentration_of (concentration_text t i field)) target final
      unfolding record_dilution text_checks unless
      text_read none = rw (mark, ne_eqb (deletion_byte t i) deleted_mark kept, none)

-- the text at the field's place
pub placed-mark : (t : List ℕ) (i field : ℕ) (p : Place) → p ≡ place_at t i field → p.mark ≡ deletion_byte t i
unfolding place_at
placed-mark t i field p e = ap (λ (q : Place). q.mark) e

pub placed_text : (t : List ℕ) (i field : ℕ) (p : Place) → p ≡ place_at t i field → is_concentration t field ≡ true
    → read_number (window t p.start p.length) p.decimals ≡ concentration_text t i field
unfolding place_at entry_of concentration_text field_bytes field_start is_concentration
placed_text t i field p e c =
    let tests = both (eqb (field_type t (field - 1)) type_n) (eqb (field_decimals t (field - 1)) concentration_decimals) c in
    let decimals : field_decimals t (field - 1) ≡ concentration_decimals = eqb-true _ _ tests.1 in
    rw (e, decimals)
