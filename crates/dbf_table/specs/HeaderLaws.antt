-- Laws: a table's checks look at its header, its length and the byte after its records alone. Assumes nothing.
use Rattle.std.specs.Prelude.{ℕ, ◌≤◌, ◌<◌, ◌≡◌, List, length}
use Rattle.std.proofs.Common.{arith}
use Rattle.octets.specs.Bytes.{byte_at, le32}
use Rattle.dbf_table.specs.Table.{field_type, field_length, field_decimals, field_offset, field_count, header_length_of, record_count, records_end}
use Rattle.dbf_table.specs.Table.{size_good, date_good, header_good, length_good, table_checks}
use Rattle.dbf_table.specs.TableLaws.{HeaderFits}
use Rattle.dbf_table.specs.SameForm as form

pub record SameHeader (b c : List ℕ) : Type 0 where
  pub size : length c ≡ length b
  pub header : (k : ℕ) → k < header_length_of b → byte_at c k ≡ byte_at b k
  pub after : byte_at c (records_end b (record_count b)) ≡ byte_at b (records_end b (record_count b))

module _ (b c : List ℕ) (fits : HeaderFits b) (same : SameHeader b c) where
  -- a byte before the descriptors
  early : (k : ℕ) → k < 32 → byte_at c k ≡ byte_at b k
  early k l = same.header k (omega (arith, fits.form))

  same-form : form.SameForm b c
  same-form = record { first = early 0 (omega arith); rest = λ k from to o. same.header k to }

  -- what the header says

  pub count_same : record_count c ≡ record_count b
  unfolding record_count le32
  count_same = rw (early 4 (omega arith), early 5 (omega arith), early 6 (omega arith), early 7 (omega arith))

  pub fields-same : field_count c ≡ field_count b
  fields-same = form.fields-same b c fits same-form

  pub end_same : (k : ℕ) → records_end c k ≡ records_end b k
  end_same = form.end_same b c fits same-form

  pub type-same : (j : ℕ) → j < field_count b → field_type c j ≡ field_type b j
  type-same = form.type-same b c fits same-form

  pub width_same : (j : ℕ) → j < field_count b → field_length c j ≡ field_length b j
  width_same = form.width_same b c fits same-form

  pub decimals-same : (j : ℕ) → j < field_count b → field_decimals c j ≡ field_decimals b j
  decimals-same = form.decimals-same b c fits same-form

  pub offset-same : (j : ℕ) → j ≤ field_count b → field_offset c j ≡ field_offset b j
  offset-same = form.offset-same b c fits same-form

  -- ---- the checks that the form does not decide

  size_same : size_good c ≡ size_good b
  unfolding size_good
  size_same = rw same.size

  date-same : date_good c ≡ date_good b
  unfolding date_good
  date-same = rw (early 1 (omega arith), early 2 (omega arith), early 3 (omega arith))

  header-same : header_good c ≡ header_good b
  unfolding header_good
  header-same = rw (form.header-same b c fits same-form, fields-same, same.size)

  end-good-same : length_good c ≡ length_good b
  unfolding length_good
  end-good-same = rw (count_same, end_same (record_count b), same.size, same.after)

  pub checks-same : table_checks c ≡ table_checks b
  unfolding table_checks
  checks-same =
      rw (
        size_same,
        form.kind-same b c fits same-form,
        date-same,
        header-same,
        form.mark-same b c fits same-form,
        form.descriptors_same b c fits same-form,
        form.names_same b c fits same-form,
        form.memo_same b c fits same-form,
        form.filled-same b c fits same-form,
        end-good-same,
      )
