-- Laws: a table that was written to reads as before. Each record that it had reads as before in every field, after an append and after a new date, and the
-- walk hands out the numbers that it did. Assumes nothing.
use Rattle.std.specs.Prelude.{ℕ, ◌+◌, ◌-◌, ◌≤◌, ◌<◌, ◌≡◌, refl, Bool, true, List, [], ◌∷◌, length, eqb, Ok, Err, Some, None}
use Rattle.std.proofs.Common.{sym, ap, ◌∙◌, ext_get_or, eqb-true, le-leb}
use Rattle.std.proofs.Math.Nat.{mul-le-mul_right, add-mul}
use native.Mathlib.Omega.{arith}
use Rattle.basis.specs.Tests.{either}
use Rattle.refusal.specs.CheckLaws.{first-after}
use Rattle.refusal.specs.Checks.{first_refusal}
use Rattle.octets.specs.Bytes.{byte_at}
use Rattle.octets.specs.Store.{window}
use Rattle.octets.specs.StoreLaws.{get_d_window, length-window}
use Rattle.dbf_table.specs.Table.{type_c, type_n, type_d, type_l, type_m, field_type, field_length, field_decimals, field_offset, field_count, header_length_of}
use Rattle.dbf_table.specs.Table.{record_length_of, record_count, records_end, record_start, deletion_byte, table_checks, table_refusal}
use Rattle.dbf_table.specs.FormLaws.{field_form, form-some}
use Rattle.dbf_table.specs.TableLaws.{HeaderFits, layout, table-numbered}
use Rattle.dbf_table.specs.RecordLaws.{record_positive, field_inside}
use Rattle.dbf_field.specs.Field.{number_good}
use Rattle.dbf_field.specs.FieldLaws.{place-good, number-range}
use Rattle.fpt_memo.specs.Memo.{MemoPlace, memo_text}
use Rattle.calendar.specs.DateText.{date_of}
use Rattle.numeral.specs.Reading.{read_number}
use Rattle.dbf_cell.specs.Cell.{reads_type, mark_good, cell_refusal, field_start, field_bytes, number_cell, date_cell, logical_of, logical_cell, memo_part}
use Rattle.dbf_cell.specs.Cell.{text_at, text_cell, text_part}
use Rattle.dbf_cell.specs.CellLaws.{cell_good}
use Rattle.dbf_cell.specs.declared.Reads.{Reads}
use Rattle.dbf_cell.specs.declared.Reads.TheVariants.{Numbers, Dates, Logicals, Texts}
use Rattle.dbf_append.specs.Append.{text_in}
use Rattle.dbf_append.specs.Extent.{own_end}
use Rattle.dbf_table.specs.SameForm.{SameForm, fields-same, end_same, type-same, width_same, decimals-same, offset-same}

-- two parts with the same bytes
window_alike : (b c : List ℕ) (from at n : ℕ) → from + n ≤ length b → at + n ≤ length c → ((k : ℕ) → k < n → byte_at c (at + k) ≡ byte_at b (from + k))
    → window c at n ≡ window b from n
window_alike b c from at n h l same =
    let whole = length-window b from n h in
    let other = length-window c at n l in
    ext_get_or 0 (window c at n) (window b from n) (other ∙ sym whole)
    (λ k m. let below : k < n = omega arith in get_d_window c at n k 0 below ∙ same k below ∙ sym (get_d_window b from n k 0 below))

-- a memo's part is not the table's
memo_alone : (b c m : List ℕ) (q : MemoPlace) → text_part b m (memo_part q) ≡ text_part c m (memo_part q)
unfolding memo_part text_part
memo_alone b c m (Ok (Some place)) = refl
memo_alone b c m (Ok None) = refl
memo_alone b c m (Err n) = refl

in-range : (i n : ℕ) → 1 ≤ i → i ≤ n → number_good i n ≡ true
unfolding number_good
in-range i n from to = rw (le-leb 1 i from, le-leb i n to)

-- a call's refusals after those of a good table
checks : Reads → List ℕ → ℕ → ℕ → List (Bool × ℕ)
checks reads b i field =
    (number_good i (record_count b), 11)
    ∷ (number_good field (field_count b), 12)
    ∷ (reads_type reads (field_type b (field - 1)), 13)
    ∷ (mark_good (deletion_byte b i), 15)
    ∷ []

cell_after : (reads : Reads) (b : List ℕ) (i field : ℕ) → table_refusal b ≡ 0 → cell_refusal reads b i field ≡ first_refusal (checks reads b i field)
unfolding cell_refusal table_refusal checks
cell_after reads b i field good = first-after (table_checks b) (checks reads b i field) (table-numbered b) good

-- a good table that has the records of another: the same form, at least as many records, and the same bytes in each
pub record Extends (t c : List ℕ) : Type 0 where
  pub old : table_refusal t ≡ 0
  pub new : table_refusal c ≡ 0
  pub form : SameForm t c
  pub count : record_count t ≤ record_count c
  pub records : (k : ℕ) → header_length_of t ≤ k → k < own_end t → byte_at c k ≡ byte_at t k

module _ (t c : List ℕ) (more : Extends t c) where
  header : HeaderFits t
  header = (layout t more.old).header

  old-inside : own_end t ≤ length t
  unfolding own_end
  old-inside = (layout t more.old).records

  -- the old records end in the new table
  new-inside : own_end t ≤ length c
  unfolding own_end records_end
  new-inside =
      let ends = rw (end_same t c header more.form (record_count c)) at (layout c more.new).records in
      omega (arith, ends, mul-le-mul_right (record_length_of t) more.count)

  -- ---- a record that the old table has

  module _ (i : ℕ) (from : 1 ≤ i) (to : i ≤ record_count t) where
    start-same : record_start c i ≡ record_start t i
    unfolding record_start
    start-same = end_same t c header more.form (i - 1)

    behind : header_length_of t ≤ record_start t i
    unfolding record_start records_end
    behind = omega arith

    within : record_start t i + record_length_of t ≤ own_end t
    unfolding record_start records_end own_end
    within =
        let last : i - 1 < record_count t = omega arith in
        omega (arith, add-mul (i - 1) 1 (record_length_of t), mul-le-mul_right (record_length_of t) last)

    pub mark-same : deletion_byte c i ≡ deletion_byte t i
    unfolding deletion_byte
    mark-same = rw start-same (more.records (record_start t i) behind (omega (arith, within, record_positive t (layout t more.old))))

    module _ (field : ℕ) where
      checks-same : (reads : Reads) → first_refusal (checks reads c i field) ≡ first_refusal (checks reads t i field)
      unfolding checks first_refusal
      checks-same reads =
          rw (in-range i (record_count c) from (omega (arith, more.count)), in-range i (record_count t) from to, fields-same t c header more.form)
          (either (number_good field (field_count t))
          (λ z. let range = number-range field (field_count t) z in rw (type-same t c header more.form (field - 1) (omega arith), mark-same))
          (λ z. rw z))

      refusal-same : (reads : Reads) → cell_refusal reads c i field ≡ cell_refusal reads t i field
      refusal-same reads = cell_after reads c i field more.new ∙ checks-same reads ∙ sym (cell_after reads t i field more.old)

      -- where no check refuses, the field is the same
      module _ (reads : Reads) (none : eqb (cell_refusal reads t i field) 0 ≡ true) where
        inside : field - 1 < field_count t
        inside = let place = place-good t i field (cell_good reads t i field (eqb-true _ _ none)).place in omega arith

        place_same : field_start c i field ≡ field_start t i field
        unfolding field_start
        place_same = rw (start-same, offset-same t c header more.form (field - 1) (omega (arith, inside)))

        place-within : (header_length_of t ≤ field_start t i field) × (field_start t i field + field_length t (field - 1) ≤ own_end t)
        unfolding field_start
        place-within =
            let ends = field_inside t (layout t more.old) (field - 1) inside in
            (omega (arith, behind), omega (arith, within, ends))

        bytes_same : field_bytes c i field ≡ field_bytes t i field
        unfolding field_bytes
        bytes_same =
            let start = field_start t i field in
            let width = field_length t (field - 1) in
            let place = place-within in
            rw (place_same, width_same t c header more.form (field - 1) inside)
            (window_alike t c start start width (omega (arith, old-inside)) (omega (arith, new-inside))
            (λ k l. more.records (start + k) (omega arith) (omega arith)))

      pub number_alike : number_cell c i field ≡ number_cell t i field
      unfolding number_cell
      number_alike =
          rw (refusal-same Numbers) (either (eqb (cell_refusal Numbers t i field) 0)
          (λ none. rw (none, bytes_same Numbers none, decimals-same t c header more.form (field - 1) (inside Numbers none)))
          (λ some. rw some))

      pub date_alike : date_cell c i field ≡ date_cell t i field
      unfolding date_cell
      date_alike =
          rw (refusal-same Dates) (either (eqb (cell_refusal Dates t i field) 0)
          (λ none. rw (none, bytes_same Dates none))
          (λ some. rw some))

      pub logical_alike : logical_cell c i field ≡ logical_cell t i field
      unfolding logical_cell
      logical_alike =
          rw (refusal-same Logicals) (either (eqb (cell_refusal Logicals t i field) 0)
          (λ none.
          let some = form-some _ _ _ (field_form t (layout t more.old) (field - 1) (inside Logicals none)) in
          let place = place-within Logicals none in
          rw (none, place_same Logicals none, more.records (field_start t i field) place.0 (omega arith)))
          (λ some. rw some))

      pub text_alike : (m : List ℕ) → text_cell c m i field ≡ text_cell t m i field
      unfolding text_cell text_at field_bytes
      text_alike m =
          rw (refusal-same Texts) (either (eqb (cell_refusal Texts t i field) 0)
          (λ none.
          let l = inside Texts none in
          let type = type-same t c header more.form (field - 1) l in
          let width = width_same t c header more.form (field - 1) l in
          rw (none, bytes_same Texts none, type, width, place_same Texts none))
          (λ some. rw some))

      -- and so is the part handed back
      pub part_alike : (m : List ℕ) → text_part c m (text_cell c m i field) ≡ text_part t m (text_cell t m i field)
      unfolding text_cell text_at field_bytes text_part
      part_alike m =
          rw (text_alike m) (either (eqb (cell_refusal Texts t i field) 0)
          (λ none. either (eqb (field_type t (field - 1)) type_c)
          (λ chars.
          let width = width_same t c header more.form (field - 1) (inside Texts none) in
          rw (none, chars) (rw (place_same Texts none, width) at (bytes_same Texts none)))
          (λ memo. rw (none, memo) (memo_alone c t m (memo_text (field_bytes t i field) m))))
          (λ some. rw some))

-- ---- the record that was added

-- a table with the record r behind those of another
pub record Added (t r c : List ℕ) : Type 0 where
  pub extends : Extends t c
  pub count : record_count c ≡ record_count t + 1
  pub fills : length r ≡ record_length_of t
  pub mark : mark_good (byte_at r 0) ≡ true
  pub bytes : (k : ℕ) → k < length r → byte_at c (own_end t + k) ≡ byte_at r k

module _ (t r c : List ℕ) (added : Added t r c) where
  abbrev last : ℕ
  last = record_count t + 1

  abbrev more : Extends t c
  more = added.extends

  abbrev front : HeaderFits t
  front = (layout t more.old).header

  last-start : record_start c last ≡ own_end t
  unfolding record_start own_end
  last-start = let e : record_count t + 1 - 1 ≡ record_count t = omega arith in rw (e, end_same t c front more.form (record_count t))

  -- it has the deletion byte that was given
  pub last-mark : deletion_byte c last ≡ byte_at r 0
  unfolding deletion_byte
  last-mark =
      let none : own_end t + 0 ≡ own_end t = omega arith in
      rw last-start (rw none at (added.bytes 0 (omega (arith, added.fills, record_positive t (layout t more.old)))))

  last-inside : own_end t + length r ≤ length c
  unfolding own_end records_end
  last-inside =
      let ends = rw (end_same t c front more.form (record_count c), added.count) at (layout c more.new).records in
      omega (arith, ends, added.fills, add-mul (record_count t) 1 (record_length_of t))

  module _ (field : ℕ) (from : 1 ≤ field) (to : field ≤ field_count t) where
    abbrev j : ℕ
    j = field - 1

    below : j < field_count t
    below = omega arith

    -- the bytes of each field are those given
    last-bytes : field_bytes c last field ≡ text_in t r j
    unfolding field_bytes field_start text_in
    last-bytes =
        let within = field_inside t (layout t more.old) j below in
        let offset = field_offset t j in
        rw (last-start, offset-same t c front more.form j (omega (arith, below)), width_same t c front more.form j below)
        (window_alike r c offset (own_end t + offset) (field_length t j) (omega (arith, added.fills)) (omega (arith, added.fills, last-inside))
        (λ k l. let at : own_end t + offset + k ≡ own_end t + (offset + k) = omega arith in
        rw at (added.bytes (offset + k) (omega (arith, added.fills)))))

    -- so a call that reads the field's type reads them
    last-read : (reads : Reads) → reads_type reads (field_type t j) ≡ true → cell_refusal reads c last field ≡ 0
    unfolding checks first_refusal
    last-read reads type =
        cell_after reads c last field more.new
        ∙ rw (
          in-range last (record_count c) (omega arith) (omega (arith, added.count)),
          fields-same t c front more.form,
          in-range field (field_count t) from to,
          type-same t c front more.form j below,
          type,
          last-mark,
          added.mark,
        )

    pub last-number : field_type t j ≡ type_n → number_cell c last field ≡ read_number (text_in t r j) (field_decimals t j)
    unfolding number_cell reads_type
    last-number n = rw (last-read Numbers (rw n), last-bytes, decimals-same t c front more.form j below)

    pub last-date : field_type t j ≡ type_d → date_cell c last field ≡ date_of (text_in t r j)
    unfolding date_cell reads_type
    last-date d = rw (last-read Dates (rw d), last-bytes)

    pub last_logical : field_type t j ≡ type_l → logical_cell c last field ≡ logical_of (byte_at (text_in t r j) 0)
    unfolding logical_cell reads_type field_bytes
    last_logical l =
        let start = field_start c last field in
        let width = field_length c j in
        let some = form-some _ _ _ (field_form t (layout t more.old) j below) in
        let none : start + 0 ≡ start = omega arith in
        let byte = rw none at (get_d_window c start width 0 0 (omega (arith, width_same t c front more.form j below))) in
        rw (last-read Logicals (rw l), ← last-bytes) (ap logical_of (sym byte))

    -- the bytes of a C field are handed back as they are, and an M field's are looked up in the memo file
    pub last_text : field_type t j ≡ type_c → (m : List ℕ) → text_part c m (text_cell c m last field) ≡ text_in t r j
    unfolding text_cell text_at text_part reads_type field_bytes
    last_text chars m = rw (last-read Texts (rw chars), type-same t c front more.form j below, chars) last-bytes

    pub last_memo : field_type t j ≡ type_m → (m : List ℕ) → text_cell c m last field ≡ memo_part (memo_text (text_in t r j) m)
    unfolding text_cell text_at reads_type field_bytes
    last_memo memo m = rw (last-read Texts (rw memo), type-same t c front more.form j below, memo) (ap (λ s. memo_part (memo_text s m)) last-bytes)
