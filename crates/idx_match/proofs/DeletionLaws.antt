-- Laws: "each record 1 to n, whatever its deletion byte": if another byte replaces a record's deletion byte, no answer of the match changes. No proof of the
-- code cites them: they are for readers of the rule. Assumes nothing.
use Rattle.std.specs.Prelude.{ℕ, ◌+◌, ◌-◌, ◌≤◌, ◌<◌, ◌≡◌, List, [], ◌∷◌, ltb}
use Rattle.std.proofs.Common.{sym, ◌∙◌, mul-le-mul_right, arith, ltb-true, ltb-false}
use Rattle.basis.specs.Tests.{either}
use Rattle.refusal.specs.CheckLaws.{first-same}
use Rattle.refusal.specs.Checks.{first_refusal}
use Rattle.tree.proofs.ListLaws.{all_map2}
use Rattle.octets.specs.StoreLaws.{window-before, window-after}
use Rattle.dbf_table.specs.Table.{field_length, field_count, record_count, record_length_of, records_end, record_start, table_checks, table_refusal}
use Rattle.dbf_table.specs.TableLaws.{HeaderFits, layout}
use Rattle.dbf_table.specs.RecordLaws.{field_inside, records-next, offset-positive}
use Rattle.dbf_field.specs.Field.{number_good}
use Rattle.dbf_field.specs.FieldLaws.{number-range}
use Rattle.dbf_cell.specs.Cell.{field_start, field_bytes}
use Rattle.dbf_table.specs.HeaderLaws.{SameHeader, checks-same, count_same, fields-same, end_same, type-same, width_same, offset-same}
use Rattle.dbf_cell.specs.MarkLaws.{with_mark, same-header}
use Rattle.idx_page.specs.Header.{header_good}
use Rattle.idx_sound.specs.Sound.{leaf_pairs}
use Rattle.idx_sound.specs.AuditTest.{Entries}
use Rattle.idx_match.specs.Match.{match_refusal, Matches, Matched}
use Rattle.idx_match.proofs.CallLaws.{table-good, ready}

-- fewer records end no later
ends-before : (t : List ℕ) (k l : ℕ) → k ≤ l → records_end t k ≤ records_end t l
unfolding records_end
ends-before t k l h = omega (arith, mul-le-mul_right (record_length_of t) h)

module _ (t : List ℕ) (i mark field : ℕ) (good : table_refusal t ≡ 0) (from : 1 ≤ i) (to : i ≤ record_count t) where
  abbrev T : List ℕ
  T = with_mark t i mark

  abbrev fits : HeaderFits t
  fits = (layout t good).header

  abbrev same : SameHeader t (with_mark t i mark)
  same = same-header t i mark good from to

  -- the checks before the audit do not read the deletion byte
  refusal-same : (b : List ℕ) → match_refusal (with_mark t i mark) b field ≡ match_refusal t b field
  unfolding match_refusal first_refusal
  refusal-same b =
      rw (checks-same t T fits same, fields-same t T fits same)
      (first-same (table_checks t) _ _ (either (header_good b)
      (λ h. either (number_good field (field_count t))
      (λ z. let range = number-range field (field_count t) z in
      rw (type-same t T fits same (field - 1) (omega arith), width_same t T fits same (field - 1) (omega arith)))
      (λ z. rw (h, z)))
      (λ h. rw h)))

  -- and it is no byte of any record's field
  module _ (first : 1 ≤ field) (last : field ≤ field_count t) where
    start-same : (j : ℕ) → field_start (with_mark t i mark) j field ≡ field_start t j field
    unfolding field_start record_start
    start-same j = rw (end_same t T fits same (j - 1), offset-same t T fits same (field - 1) (omega arith))

    apart : (j : ℕ) → 1 ≤ j → j < i → field_start t j field + field_length t (field - 1) ≤ record_start t i
    unfolding field_start record_start
    apart j l h =
        let within = field_inside t (layout t good) (field - 1) (omega arith) in
        let next = records-next t (j - 1) in
        omega (arith, ends-before t (j - 1 + 1) (i - 1) (omega arith))

    later : (j : ℕ) → i ≤ j → record_start t i + 1 ≤ field_start t j field
    unfolding field_start record_start
    later j h = omega (arith, ends-before t (i - 1) (j - 1) (omega arith), offset-positive t (field - 1))

    bytes_same : (j : ℕ) → 1 ≤ j → field_bytes (with_mark t i mark) j field ≡ field_bytes t j field
    unfolding field_bytes with_mark
    bytes_same j l =
        rw (start-same j, width_same t T fits same (field - 1) (omega arith))
        (either (ltb j i)
        (λ e. window-before t (record_start t i) (mark ∷ []) (field_start t j field) (field_length t (field - 1)) (apart j l (ltb-true j i e)))
        (λ e. window-after t (record_start t i) (mark ∷ []) (field_start t j field) (field_length t (field - 1)) (later j (ltb-false j i e))))

    -- so the entries match the one table exactly if they match the other
    matches_there : (es : Entries) → Matches t field es → Matches (with_mark t i mark) field es
    matches_there es m =
        let n = count_same t T fits same in
        record {
          once = rw n m.once;
          keys = all_map2 (λ e. e.0 ≡ field_bytes t e.1 field) (λ e. (1 ≤ e.1) × (e.1 ≤ record_count t)) (λ e. e.0 ≡ field_bytes T e.1 field)
              (λ e k r. k ∙ sym (bytes_same e.1 r.0)) es m.keys m.others;
          others = rw n m.others;
        }

    matches_here : (es : Entries) → Matches (with_mark t i mark) field es → Matches t field es
    matches_here es m =
        let n = count_same t T fits same in
        record {
          once = rw n at m.once;
          keys = all_map2 (λ e. e.0 ≡ field_bytes T e.1 field) (λ e. (1 ≤ e.1) × (e.1 ≤ record_count T)) (λ e. e.0 ≡ field_bytes t e.1 field)
              (λ e k r. k ∙ bytes_same e.1 r.0) es m.keys m.others;
          others = rw n at m.others;
        }

  -- Theorem: the answer is the same
  pub deletion_unread : (b : List ℕ) (r : ℕ) → Matched t b field r → Matched (with_mark t i mark) b field r
  deletion_unread b r m =
      let e = refusal-same b in
      record {
        refused = rw e m.refused;
        unsound = rw e m.unsound;
        accepted = λ z s.
            let none : match_refusal t b field ≡ 0 = sym e ∙ z in
            let known = ready t b field (table-good t b field none) none in
            let here = m.accepted none s in (
              (λ q. matches_there known.from known.to (leaf_pairs b s) (here.0 q)),
              (λ q. here.1 (matches_here known.from known.to (leaf_pairs b s) q)),
            );
        other = rw e m.other;
      }
