-- Laws: "Fields of deleted records are read like others": if one good deletion mark replaces another, no answer about the record's fields changes.
-- Assumes nothing.
use Rattle.std.specs.Prelude.{ℕ, ◌+◌, ◌-◌, ◌≤◌, ◌<◌, ◌≡◌, refl, true, List, [], ◌∷◌, eqb, Ok, Err, Some, None}
use Rattle.std.proofs.Math.Nat.{mul-le-mul_right, add-mul}
use native.Mathlib.Omega.{arith}
use Rattle.std.proofs.Common.{get_or-set_same, eqb-true}
use Rattle.basis.specs.Tests.{either}
use Rattle.refusal.specs.CheckLaws.{first-same}
use Rattle.refusal.specs.Checks.{first_refusal}
use Rattle.octets.specs.Store.{put}
use Rattle.octets.specs.StoreLaws.{length-put, put_one, get_or-put_low, get_or-put_high, window-after}
use Rattle.dbf_field.specs.Field.{number_good}
use Rattle.dbf_table.specs.Table.{type_c, field_type, field_length, field_count, header_length_of, record_length_of, record_count, records_end, record_start}
use Rattle.dbf_table.specs.Table.{deletion_byte, table_checks, table_refusal}
use Rattle.dbf_table.specs.TableLaws.{layout}
use Rattle.dbf_table.specs.RecordLaws.{offset-positive, record_positive}
use Rattle.dbf_field.specs.FieldLaws.{place-good, number-range}
use Rattle.fpt_memo.specs.Memo.{MemoPlace, memo_text}
use Rattle.dbf_cell.specs.Cell.{mark_good, cell_refusal, field_start, field_bytes, number_cell, date_cell, logical_cell, memo_part, text_at, text_cell}
use Rattle.dbf_cell.specs.Cell.{text_part}
use Rattle.dbf_cell.specs.CellLaws.{cell_good}
use Rattle.dbf_table.specs.HeaderLaws.{SameHeader, checks-same, count_same, fields-same, end_same, type-same, width_same, decimals-same, offset-same}
use Rattle.dbf_cell.specs.declared.Reads.{Reads}
use Rattle.dbf_cell.specs.declared.Reads.TheVariants.{Numbers, Dates, Logicals, Texts}

-- the table with `mark` as the deletion byte of record i
unfoldable pub with_mark : List ℕ → ℕ → ℕ → List ℕ
with_mark b i mark = put b (record_start b i) (mark ∷ [])

-- the part of a memo does not depend on the table
memo_alone : (b c m : List ℕ) (q : MemoPlace) → text_part b m (memo_part q) ≡ text_part c m (memo_part q)
unfolding memo_part text_part
memo_alone b c m (Ok (Some place)) = refl
memo_alone b c m (Ok None) = refl
memo_alone b c m (Err n) = refl

module _ (b : List ℕ) (i mark : ℕ) (good : table_refusal b ≡ 0) (from : 1 ≤ i) (to : i ≤ record_count b) where
  -- the deletion byte lies between the header and the byte after the records
  behind : header_length_of b ≤ record_start b i
  unfolding record_start records_end
  behind = omega arith

  before : record_start b i + 1 ≤ records_end b (record_count b)
  unfolding record_start records_end
  before =
      let step = add-mul (i - 1) 1 (record_length_of b) in
      let last : i - 1 < record_count b = omega arith in
      omega (arith, record_positive b (layout b good), mul-le-mul_right (record_length_of b) last)

  pub same-header : SameHeader b (with_mark b i mark)
  unfolding with_mark
  same-header = record {
    size = length-put b (record_start b i) (mark ∷ []);
    header = λ k l. get_or-put_low b (record_start b i) (mark ∷ []) k 0 (omega (arith, behind));
    after = get_or-put_high b (record_start b i) (mark ∷ []) (records_end b (record_count b)) 0 before;
  }

  start-same : record_start (with_mark b i mark) i ≡ record_start b i
  unfolding record_start
  start-same = end_same b (with_mark b i mark) (layout b good).header same-header (i - 1)

  marked : deletion_byte (with_mark b i mark) i ≡ mark
  unfolding deletion_byte with_mark
  marked =
      rw (start-same, put_one b (record_start b i) mark)
      (get_or-set_same b (record_start b i) mark 0 (omega (arith, before, (layout b good).records)))

  module _ (old : mark_good (deletion_byte b i) ≡ true) (new : mark_good mark ≡ true) (field : ℕ) where
    refusal-same : (reads : Reads) → cell_refusal reads (with_mark b i mark) i field ≡ cell_refusal reads b i field
    unfolding cell_refusal first_refusal
    refusal-same reads =
        let c = with_mark b i mark in
        let fits = (layout b good).header in
        rw (checks-same b c fits same-header, count_same b c fits same-header, fields-same b c fits same-header)
        (first-same (table_checks b) _ _ (either (number_good field (field_count b))
        (λ z. let range = number-range field (field_count b) z in rw (type-same b c fits same-header (field - 1) (omega arith), marked, old, new))
        (λ z. rw z)))

    -- if no check refuses, the field is the same
    module _ (reads : Reads) (none : eqb (cell_refusal reads b i field) 0 ≡ true) where
      inside : field - 1 < field_count b
      inside =
          let place = place-good b i field (cell_good reads b i field (eqb-true _ _ none)).place in
          omega arith

      place_same : field_start (with_mark b i mark) i field ≡ field_start b i field
      unfolding field_start
      place_same = rw (start-same, offset-same b (with_mark b i mark) (layout b good).header same-header (field - 1) (omega (arith, inside)))

      later : record_start b i + 1 ≤ field_start b i field
      unfolding field_start
      later = omega (arith, offset-positive b (field - 1))

      bytes_same : field_bytes (with_mark b i mark) i field ≡ field_bytes b i field
      unfolding field_bytes with_mark
      bytes_same =
          rw (place_same, width_same b (with_mark b i mark) (layout b good).header same-header (field - 1) inside)
          (window-after b (record_start b i) (mark ∷ []) (field_start b i field) (field_length b (field - 1)) later)

    pub number_alike : number_cell (with_mark b i mark) i field ≡ number_cell b i field
    unfolding number_cell
    number_alike =
        rw (refusal-same Numbers) (either (eqb (cell_refusal Numbers b i field) 0)
        (λ none. rw (none, bytes_same Numbers none, decimals-same b (with_mark b i mark) (layout b good).header same-header (field - 1) (inside Numbers none)))
        (λ some. rw some))

    pub date_alike : date_cell (with_mark b i mark) i field ≡ date_cell b i field
    unfolding date_cell
    date_alike =
        rw (refusal-same Dates) (either (eqb (cell_refusal Dates b i field) 0)
        (λ none. rw (none, bytes_same Dates none))
        (λ some. rw some))

    pub logical_alike : logical_cell (with_mark b i mark) i field ≡ logical_cell b i field
    unfolding logical_cell with_mark
    logical_alike =
        rw (refusal-same Logicals) (either (eqb (cell_refusal Logicals b i field) 0)
        (λ none. rw (none, place_same Logicals none, get_or-put_high b (record_start b i) (mark ∷ []) (field_start b i field) 0 (later Logicals none)))
        (λ some. rw some))

    pub text_alike : (m : List ℕ) → text_cell (with_mark b i mark) m i field ≡ text_cell b m i field
    unfolding text_cell text_at field_bytes
    text_alike m =
        let c = with_mark b i mark in
        let fits = (layout b good).header in
        rw (refusal-same Texts) (either (eqb (cell_refusal Texts b i field) 0)
        (λ none. let l = inside Texts none in
        rw (none, bytes_same Texts none, type-same b c fits same-header (field - 1) l, width_same b c fits same-header (field - 1) l, place_same Texts none))
        (λ some. rw some))

    -- and so is the part handed back
    pub part_alike : (m : List ℕ) → text_part (with_mark b i mark) m (text_cell (with_mark b i mark) m i field) ≡ text_part b m (text_cell b m i field)
    unfolding text_cell text_at field_bytes text_part with_mark
    part_alike m =
        rw (text_alike m) (either (eqb (cell_refusal Texts b i field) 0)
        (λ none. either (eqb (field_type b (field - 1)) type_c)
        (λ c. rw (none, c) (window-after b (record_start b i) (mark ∷ []) (field_start b i field) (field_length b (field - 1)) (later Texts none)))
        (λ c. rw (none, c) (memo_alone (with_mark b i mark) b m (memo_text (field_bytes b i field) m))))
        (λ some. rw some))
