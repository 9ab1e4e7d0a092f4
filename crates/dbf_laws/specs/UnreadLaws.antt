-- Laws: document 02, K7: where a field lies is "worked out by us and not taken from bytes 12-15": two tables that differ in bytes 12 to 15 of their descriptors
-- alone (`SameElsewhere`) have the same answers of every call that reads them, whether they are good or not. No proof of the code cites them: they are for
-- readers of the rules. Assumes nothing.
use Rattle.std.specs.Prelude.{◌≡◌, Bool, true, false, length, take, eqb, leb, Err, Ok, Some, None}
use Prim.Native.Nat.{ℕ, zero, suc, ◌+◌, ◌-◌, ◌≤◌}
use Rattle.std.proofs.Math.Path.{refl}
use Rattle.std.proofs.Common.{sym, ◌∙◌, arith, eqb-true, leb-true, leb-false}
use mathlib.Core.List.{List, [], ◌∷◌, ◌++◌}
use Rattle.std.proofs.lemmas.Bool.{eqb-false}
use Rattle.basis.specs.Tests.{either}
use Rattle.refusal.specs.Checks.{first_refusal, unless}
use Rattle.refusal.specs.CheckLaws.{first-same}
use Rattle.fpt_memo.specs.Memo.{MemoPlace, memo_text}
use Rattle.dbf_table.specs.Table.{min_table, type_c, field_type, field_length, field_offset, field_count, header_length_of, record_count, records_end}
use Rattle.dbf_table.specs.Table.{record_start, table_refusal}
use Rattle.dbf_table.specs.TableLaws.{HeaderFits, layout}
use Rattle.dbf_table.specs.UnreadLaws as table
use Rattle.dbf_table.specs.UnreadLaws.{SameElsewhere, records-behind}
use Rattle.dbf_field.specs.Field.{field_name, entry_of, field_refusal, field_answer}
use Rattle.dbf_field.specs.FieldLaws.{place-good}
use Rattle.dbf_field.specs.declared.FieldEntry.{FieldEntry}
use Rattle.dbf_walk.specs.Walk.{marks_from, step_from, step_by}
use Rattle.dbf_walk.specs.declared.Position.{Position}
use Rattle.dbf_cell.specs.Cell.{cell_refusal, field_start, field_bytes, number_cell, date_cell, logical_cell, memo_part, text_at, text_cell, text_part}
use Rattle.dbf_cell.specs.CellLaws.{cell_good}
use Rattle.dbf_cell.specs.declared.Reads.{Reads}
use Rattle.dbf_cell.specs.declared.Reads.TheVariants.{Numbers, Dates, Logicals, Texts}
use Rattle.dbf_append.specs.Append.{held_checks, text_in, texts_refusal, new_end, record_checks, append_refusal}
use Rattle.dbf_append.specs.CheckLaws.{count-front, end-front}
use Rattle.dbf_append.specs.UpdateDate.{set_date_refusal}
use Rattle.dbf_append.specs.Extent.{form_refusal, own_end, extent_rule}
use Rattle.dbf_append.specs.ExtentLaws.{form-good, form_10, form-other, extent-refused, extent-short, extent-told}
use Rattle.dbf_calls.specs.Lent.{listing_refusal, plan_of, listed, listing}
use Rattle.idx_sound.specs.AuditTest.{Entries}
use Rattle.idx_match.specs.Match.{match_refusal, Matched}
use Rattle.idx_match.specs.MatchTest.{column_of, column_bytes, entry_good, entries_good, entries_match, leaf_entries}
use Rattle.idx_match.specs.Computed.{match_answer}
use Rattle.idx_match.proofs.AnswerLaws.{answer-computed}
use Rattle.idx_match.proofs.CallLaws.{table-good}
use Rattle.dilution.specs.Dilution.{Dilution, concentration_text, is_concentration, field_checks, header_checks, sheet_checks, text_checks}
use Rattle.dilution.specs.Dilution.{record_dilution, record_with, barcode_checks, dilute_rule}

-- the part of a memo does not depend on the table
memo_alone : (b c m : List ℕ) (q : MemoPlace) → text_part c m (memo_part q) ≡ text_part b m (memo_part q)
unfolding memo_part text_part
memo_alone b c m (Ok (Some place)) = refl
memo_alone b c m (Ok None) = refl
memo_alone b c m (Err n) = refl

module _ (b c : List ℕ) (same : SameElsewhere b c) where
  -- ---- the check and the shape are `dbf_table/UnreadLaws.refusal-same` and `Shape-same`; the field list

  entry-same : (j : ℕ) → entry_of c j ≡ entry_of b j
  unfolding entry_of field_name
  entry-same j =
      rw (
        table.name-same b c same j,
        table.type-same b c same j,
        table.width_same b c same j,
        table.decimals-same b c same j,
        table.offset-same b c same j,
      )

  field_refusal-same : (field : ℕ) → field_refusal c field ≡ field_refusal b field
  unfolding field_refusal
  field_refusal-same field = table.checks_then b c same _ _ (λ fits. rw (table.fields-same b c same))

  -- Theorem: a field's entry is the same
  pub field_same : (field : ℕ) → field_answer c field ≡ field_answer b field
  unfolding field_answer
  field_same field = rw (field_refusal-same field, entry-same (field - 1))

  listed_same : (n : ℕ) (entries : List FieldEntry) → listed c n entries ≡ listed b n entries
  unfolding listed
  listed_same zero entries = refl
  listed_same (suc n) entries = rw (listed_same n entries, entry-same n)

  listing-refusal-same : (room : ℕ) → listing_refusal c room ≡ listing_refusal b room
  unfolding listing_refusal
  listing-refusal-same room = table.checks_then b c same _ _ (λ fits. rw (table.fields-same b c same))

  -- Theorem: so is the field list
  pub listing-same : (entries : List FieldEntry) → listing c entries ≡ listing b entries
  unfolding listing plan_of
  listing-same entries =
      rw (listing-refusal-same (length entries), table.fields-same b c same, listed_same _ entries)

  -- ---- a field of a record

  fits_if : table_refusal b ≡ 0 → HeaderFits b
  fits_if good = (layout b good).header

  start-same : (i field : ℕ) → field_start c i field ≡ field_start b i field
  unfolding field_start
  start-same i field = rw (table.start-same b c same i, table.offset-same b c same (field - 1))

  start-behind : (i field : ℕ) → header_length_of b ≤ field_start b i field
  unfolding field_start record_start
  start-behind i field = omega (arith, records-behind b (i - 1))

  bytes_same : HeaderFits b → (i field : ℕ) → field_bytes c i field ≡ field_bytes b i field
  unfolding field_bytes
  bytes_same fits i field =
      rw (start-same i field, table.width_same b c same (field - 1))
      (table.window_same b c same fits (field_start b i field) (field_length b (field - 1)) (start-behind i field))

  module _ (i field : ℕ) where
    cell_refusal-same : (reads : Reads) → cell_refusal reads c i field ≡ cell_refusal reads b i field
    unfolding cell_refusal
    cell_refusal-same reads =
        table.checks_then b c same _ _
        (λ fits.
        rw (table.count_same b c same, table.fields-same b c same, table.type-same b c same (field - 1), table.mark-same b c same fits i))

    cell_fits : (reads : Reads) → eqb (cell_refusal reads b i field) 0 ≡ true → HeaderFits b
    cell_fits reads none = fits_if (place-good b i field (cell_good reads b i field (eqb-true _ _ none)).place).table

    -- Theorem: a number, a date, a logical value and a text are read alike
    pub number_same : number_cell c i field ≡ number_cell b i field
    unfolding number_cell
    number_same =
        rw (cell_refusal-same Numbers) (either (eqb (cell_refusal Numbers b i field) 0)
        (λ none. rw (none, bytes_same (cell_fits Numbers none) i field, table.decimals-same b c same (field - 1)))
        (λ some. rw some))

    pub date-same : date_cell c i field ≡ date_cell b i field
    unfolding date_cell
    date-same =
        rw (cell_refusal-same Dates) (either (eqb (cell_refusal Dates b i field) 0)
        (λ none. rw (none, bytes_same (cell_fits Dates none) i field))
        (λ some. rw some))

    pub logical_same : logical_cell c i field ≡ logical_cell b i field
    unfolding logical_cell
    logical_same =
        rw (cell_refusal-same Logicals) (either (eqb (cell_refusal Logicals b i field) 0)
        (λ none. rw (none, start-same i field, table.behind b c same (cell_fits Logicals none) (field_start b i field) (start-behind i field)))
        (λ some. rw some))

    pub text_same : (m : List ℕ) → text_cell c m i field ≡ text_cell b m i field
    unfolding text_cell text_at field_bytes
    text_same m =
        rw (cell_refusal-same Texts) (either (eqb (cell_refusal Texts b i field) 0)
        (λ none.
        rw (
          none,
          bytes_same (cell_fits Texts none) i field,
          table.type-same b c same (field - 1),
          table.width_same b c same (field - 1),
          start-same i field,
        ))
        (λ some. rw some))

    -- and the part handed back has the same bytes
    pub part_same : (m : List ℕ) → text_part c m (text_cell c m i field) ≡ text_part b m (text_cell b m i field)
    unfolding text_cell text_at field_bytes text_part
    part_same m =
        rw (text_same m) (either (eqb (cell_refusal Texts b i field) 0)
        (λ none. either (eqb (field_type b (field - 1)) type_c)
        (λ chars.
        rw (none, chars)
        (table.window_same b c same (cell_fits Texts none) (field_start b i field) (field_length b (field - 1)) (start-behind i field)))
        (λ memo. rw (none, memo) (memo_alone b c m (memo_text (field_bytes b i field) m))))
        (λ some. rw some))

  -- ---- the walks

  marks_same : HeaderFits b → (passed left : ℕ) → marks_from c passed left ≡ marks_from b passed left
  unfolding marks_from
  marks_same fits passed zero = refl
  marks_same fits passed (suc left) = rw (table.mark-same b c same fits (passed + 1), marks_same fits (passed + 1) left)

  -- Theorem: a step of either walk is the same
  pub walk_same : (skips : Bool) (position : Position) → step_by skips c position ≡ step_by skips b position
  unfolding step_by step_from
  walk_same skips position =
      rw (table.refusal-same b c same, table.count_same b c same) (either (eqb (table_refusal b) 0)
      (λ good. rw (good, marks_same (fits_if (eqb-true _ _ good)) position.passed (record_count b - position.passed)))
      (λ bad. rw bad))

  -- ---- the match of an index x

  match_refusal-same : (x : List ℕ) (field : ℕ) → match_refusal c x field ≡ match_refusal b x field
  unfolding match_refusal
  match_refusal-same x field =
      table.checks_then b c same _ _
      (λ fits. rw (table.fields-same b c same, table.type-same b c same (field - 1), table.width_same b c same (field - 1)))

  module _ (fits : HeaderFits b) (field : ℕ) where
    entry-good-same : (e : List ℕ × ℕ) → entry_good c (column_of b field) e ≡ entry_good b (column_of b field) e
    unfolding entry_good column_bytes record_start
    entry-good-same e =
        rw (
          table.end_same b c same (e.1 - 1),
          table.window_same b c same fits (records_end b (e.1 - 1) + field_offset b (field - 1)) (field_length b (field - 1))
              (omega (arith, records-behind b (e.1 - 1))),
        )

    entries-good-same : (es : Entries) → entries_good c (column_of b field) es ≡ entries_good b (column_of b field) es
    unfolding entries_good
    entries-good-same [] = refl
    entries-good-same (e ∷ es) = rw (entry-good-same e, entries-good-same es)

    entries_match_same : (es : Entries) → entries_match c (column_of c field) 0 es ≡ entries_match b (column_of b field) 0 es
    unfolding entries_match
    entries_match_same es =
        rw (table.count_same b c same, table.offset-same b c same (field - 1), table.width_same b c same (field - 1), entries-good-same es)

  match_answer-same : (x : List ℕ) (field : ℕ) → match_answer c x field ≡ match_answer b x field
  unfolding match_answer first_refusal
  match_answer-same x field =
      rw (match_refusal-same x field) (either (eqb (match_refusal b x field) 0)
      (λ none. rw (none, entries_match_same (fits_if (table-good b x field (eqb-true _ _ none))) field (leaf_entries x)))
      (λ some. rw some))

  -- Theorem: an answer that meets the match's rule on one table meets it on the other
  pub match_same : (x : List ℕ) (field r : ℕ) → Matched b x field r → Matched c x field r
  match_same x field r m = (answer-computed c x field r).1 ((answer-computed b x field r).0 m ∙ sym (match_answer-same x field))

  -- ---- a dilution by an index x

  sheet_same : (x : List ℕ) (barcodeField field : ℕ) → sheet_checks c x barcodeField field ≡ sheet_checks b x barcodeField field
  unfolding sheet_checks header_checks field_checks is_concentration
  sheet_same x barcodeField field =
      rw (
        table.refusal-same b c same,
        match_answer-same x barcodeField,
        table.fields-same b c same,
        table.type-same b c same (field - 1),
        table.decimals-same b c same (field - 1),
      )

  dilution_same : HeaderFits b → (i field target final : ℕ) → record_dilution c i field target final ≡ record_dilution b i field target final
  unfolding record_dilution text_checks concentration_text
  dilution_same fits i field target final = rw (table.mark-same b c same fits i, bytes_same fits i field)

  -- a table that is refused has the table's own refusal
  sheet_refused : (x : List ℕ) (barcodeField field : ℕ) (more : List (Bool × ℕ)) (d e : Dilution) → eqb (table_refusal b) 0 ≡ false
      → unless (sheet_checks b x barcodeField field ++ more) Err d ≡ unless (sheet_checks b x barcodeField field ++ more) Err e
  unfolding unless sheet_checks header_checks
  sheet_refused x barcodeField field more d e bad = rw bad

  -- Theorem: a barcode's dilution is the same
  pub dilute_same : (x : List ℕ) (barcodeField field : ℕ) (barcode : List ℕ) (target final : ℕ)
      → dilute_rule c x barcodeField field barcode target final ≡ dilute_rule b x barcodeField field barcode target final
  unfolding dilute_rule
  dilute_same x barcodeField field barcode target final =
      rw (sheet_same x barcodeField field) (either (eqb (table_refusal b) 0)
      (λ good. rw (dilution_same (fits_if (eqb-true _ _ good)) (record_with x barcode) field target final))
      (λ bad. sheet_refused x barcodeField field (barcode_checks x barcode) _ _ bad))

  -- ---- the length that a file is shortened to

  own-end-same : own_end c ≡ own_end b
  unfolding own_end
  own-end-same = rw (table.count_same b c same) (table.end_same b c same (record_count b))

  form-same : form_refusal c ≡ form_refusal b
  form-same =
      let refusal = table.refusal-same b c same in
      either (eqb (table_refusal b) 0)
      (λ good. let none = eqb-true (table_refusal b) 0 good in form-good c (refusal ∙ none) ∙ sym (form-good b none))
      (λ bad. either (eqb (table_refusal b) 10)
      (λ ten. let is = eqb-true (table_refusal b) 10 ten in form_10 c (refusal ∙ is) ∙ sym (form_10 b is))
      (λ other.
      let some = eqb-false (table_refusal b) 0 bad in
      let not-ten = eqb-false (table_refusal b) 10 other in
      form-other c (λ e. some (sym refusal ∙ e)) (λ e. not-ten (sym refusal ∙ e)) ∙ refusal ∙ sym (form-other b some not-ten)))

  -- Theorem: it is the same
  pub extent-same : extent_rule c ≡ extent_rule b
  extent-same =
      either (eqb (form_refusal b) 0)
      (λ good.
      let none = eqb-true (form_refusal b) 0 good in
      either (leb (own_end b) (length b))
      (λ inside.
      let h = leb-true (own_end b) (length b) inside in
      extent-told c (form-same ∙ none) (omega (arith, own-end-same, same.size)) ∙ rw own-end-same (sym (extent-told b none h)))
      (λ outside.
      let h = leb-false (own_end b) (length b) outside in
      extent-short c (form-same ∙ none) (omega (arith, own-end-same, same.size)) ∙ sym (extent-short b none h)))
      (λ bad.
      let some = eqb-false (form_refusal b) 0 bad in
      extent-refused c (form_refusal b) (sym form-same) some ∙ sym (extent-refused b (form_refusal b) refl some))

-- ---- writing to a table that lies in the first n bytes of a buffer

module _ (b c : List ℕ) (n : ℕ) (size : length c ≡ length b) (same : SameElsewhere (take n b) (take n c)) where
  held_same : (more less : List (Bool × ℕ)) → first_refusal more ≡ first_refusal less
      → first_refusal (held_checks c n more) ≡ first_refusal (held_checks b n less)
  unfolding held_checks
  held_same more less alike =
      rw size (first-same ((leb n (length b), 10) ∷ []) _ _ (table.checks_then (take n b) (take n c) same more less (λ fits. alike)))

  texts-same : (r : List ℕ) (j left : ℕ) → texts_refusal (take n c) r j left ≡ texts_refusal (take n b) r j left
  unfolding texts_refusal text_in
  texts-same r j zero = refl
  texts-same r j (suc left) =
      rw (
        table.type-same (take n b) (take n c) same j,
        table.decimals-same (take n b) (take n c) same j,
        table.offset-same (take n b) (take n c) same j,
        table.width_same (take n b) (take n c) same j,
        texts-same r (j + 1) left,
      )

  -- Theorem: an append is refused alike
  pub append_refused-same : (r : List ℕ) → append_refusal c n r ≡ append_refusal b n r
  unfolding append_refusal record_checks new_end
  append_refused-same r =
      held_same _ _
      (rw (
        table.length-same (take n b) (take n c) same,
        table.fields-same (take n b) (take n c) same,
        texts-same r 0 (field_count (take n b)),
        table.count_same (take n b) (take n c) same,
        table.end_same (take n b) (take n c) same (record_count (take n b) + 1),
        size,
      ))

  -- Theorem: so is another date
  pub date-refused-same : (year month day : ℕ) → set_date_refusal c n year month day ≡ set_date_refusal b n year month day
  unfolding set_date_refusal
  date-refused-same year month day = held_same _ _ refl

  -- Theorem: an append's record is stored at the same place
  pub append_place-same : min_table ≤ n → records_end c (record_count c) ≡ records_end b (record_count b)
  append_place-same long =
      let count : record_count c ≡ record_count b =
      sym (count-front c n long) ∙ table.count_same (take n b) (take n c) same ∙ count-front b n long in
      rw count
      (sym (end-front c n long (record_count b)) ∙ table.end_same (take n b) (take n c) same (record_count b) ∙ end-front b n long (record_count b))
