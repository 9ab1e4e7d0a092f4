-- Laws: document 02, K7: where a field lies is "worked out by us and not taken from bytes 12-15". Two tables that differ in bytes 12 to 15 of their descriptors
-- alone have the same checks, numbers, field offsets and records, so that no call tells them apart: what a call's rule is made of is the same here, and the law
-- about the call stands beside its rule. No proof of the code cites them: they are for readers of the rules. Assumes nothing.
use Rattle.std.specs.Prelude.{ℕ, ◌+◌, ◌-◌, ◌≤◌, ◌<◌, ◌≡◌, refl, Bool, true, false, length}
use Rattle.std.proofs.Common.{sym, ◌∙◌, arith, length-take, length-drop, ext_get_or}
use Rattle.std.proofs.Math.Path.{ap}
use Rattle.std.proofs.lemmas.Bool.{false≢true}
use mathlib.Core.List.{List, [], ◌++◌, append-nil}
use Rattle.basis.specs.Tests.{either}
use Rattle.refusal.specs.Checks.{first_refusal}
use Rattle.refusal.specs.CheckLaws.{first-same}
use Rattle.octets.specs.Bytes.{byte_at, le16, le32}
use Rattle.octets.specs.Store.{window}
use Rattle.octets.specs.StoreLaws.{get_d_window}
use Rattle.dbf_table.specs.RangeLaws.{sum_same}
use Rattle.dbf_table.specs.Table.{descriptor, field_type, field_length, field_decimals, field_offset, field_count, header_length_of, record_length_of}
use Rattle.dbf_table.specs.Table.{record_count, records_end, record_start, deletion_byte, size_good, kind_good, date_good, header_good, length_good}
use Rattle.dbf_table.specs.Table.{table_checks, table_refusal, shape_of, check_table}
use Rattle.dbf_table.specs.TableLaws.{HeaderFits, header-fits}
use Rattle.dbf_table.specs.SameForm as form
use Rattle.dbf_table.specs.SameForm.{Elsewhere}

-- records end behind the header
pub records-behind : (b : List ℕ) (k : ℕ) → header_length_of b ≤ records_end b k
unfolding records_end
records-behind b k = omega arith

-- c is b but for bytes 12 to 15 of its fields' descriptors
pub record SameElsewhere (b c : List ℕ) : Type 0 where
  pub size : length c ≡ length b
  pub byte : (k : ℕ) → Elsewhere b k → byte_at c k ≡ byte_at b k

one-length : (b c : List ℕ) (at n : ℕ) → length c ≡ length b → length (window c at n) ≡ length (window b at n)
unfolding window
one-length b c at n size = simp (length-take, length-drop, size)

window-most : (b : List ℕ) (at n : ℕ) → length (window b at n) ≤ n
unfolding window
window-most b at n = simp (length-take, length-drop) (omega arith)

-- parts of two lists of one length with the same bytes
same-window : (b c : List ℕ) (at n : ℕ) → length c ≡ length b → ((k : ℕ) → k < n → byte_at c (at + k) ≡ byte_at b (at + k)) → window c at n ≡ window b at n
same-window b c at n size same =
    ext_get_or 0 (window c at n) (window b at n) (one-length b c at n size)
    (λ k l. let below : k < n = omega (arith, window-most c at n) in get_d_window c at n k 0 below ∙ same k below ∙ sym (get_d_window b at n k 0 below))

module _ (b c : List ℕ) (same : SameElsewhere b c) where
  -- a byte before the descriptors, and a byte of a descriptor's name, its type, its length or its decimals
  early : (k : ℕ) → k < 32 → byte_at c k ≡ byte_at b k
  early k l = same.byte k (λ i n from to. omega arith)

  front : (j k : ℕ) → k < 12 → byte_at c (descriptor j + k) ≡ byte_at b (descriptor j + k)
  front j k l = same.byte (descriptor j + k) (λ i n from to. omega arith)

  back : (j k : ℕ) → 16 ≤ k → k < 18 → byte_at c (descriptor j + k) ≡ byte_at b (descriptor j + k)
  back j k from to = same.byte (descriptor j + k) (λ i n low high. omega arith)

  -- ---- what the header says, whether it is good or not

  pub count_same : record_count c ≡ record_count b
  unfolding record_count le32
  count_same = rw (early 4 (omega arith), early 5 (omega arith), early 6 (omega arith), early 7 (omega arith))

  pub header-same : header_length_of c ≡ header_length_of b
  unfolding header_length_of le16
  header-same = rw (early 8 (omega arith), early 9 (omega arith))

  pub length-same : record_length_of c ≡ record_length_of b
  unfolding record_length_of le16
  length-same = rw (early 10 (omega arith), early 11 (omega arith))

  pub fields-same : field_count c ≡ field_count b
  unfolding field_count
  fields-same = rw header-same

  pub end_same : (k : ℕ) → records_end c k ≡ records_end b k
  unfolding records_end
  end_same k = rw (header-same, length-same)

  pub start-same : (i : ℕ) → record_start c i ≡ record_start b i
  unfolding record_start
  start-same i = end_same (i - 1)

  pub name-same : (j : ℕ) → window c (descriptor j) 11 ≡ window b (descriptor j) 11
  name-same j = same-window b c (descriptor j) 11 same.size (λ k l. front j k (omega arith))

  pub type-same : (j : ℕ) → field_type c j ≡ field_type b j
  type-same j = front j 11 (omega arith)

  pub width_same : (j : ℕ) → field_length c j ≡ field_length b j
  width_same j = back j 16 (omega arith) (omega arith)

  pub decimals-same : (j : ℕ) → field_decimals c j ≡ field_decimals b j
  decimals-same j = back j 17 (omega arith) (omega arith)

  -- where a field lies
  pub offset-same : (j : ℕ) → field_offset c j ≡ field_offset b j
  unfolding field_offset
  offset-same j = rw (sum_same (field_length c) (field_length b) j (λ i l. width_same i))

  -- ---- behind a header that fits

  module _ (fits : HeaderFits b) where
    pub behind : (k : ℕ) → header_length_of b ≤ k → byte_at c k ≡ byte_at b k
    behind k l = same.byte k (λ j n from to. omega (arith, fits.form))

    pub window_same : (at n : ℕ) → header_length_of b ≤ at → window c at n ≡ window b at n
    window_same at n l = same-window b c at n same.size (λ k m. behind (at + k) (omega arith))

    pub mark-same : (i : ℕ) → deletion_byte c i ≡ deletion_byte b i
    unfolding deletion_byte record_start
    mark-same i = rw (end_same (i - 1)) (behind (records_end b (i - 1)) (records-behind b (i - 1)))

    same-form : form.SameForm b c
    same-form = record { first = early 0 (omega arith); rest = λ k from to o. same.byte k o }

  -- ---- the checks

  size_same : size_good c ≡ size_good b
  unfolding size_good
  size_same = rw same.size

  kind-same : kind_good c ≡ kind_good b
  unfolding kind_good
  kind-same = rw (early 0 (omega arith))

  date-same : date_good c ≡ date_good b
  unfolding date_good
  date-same = rw (early 1 (omega arith), early 2 (omega arith), early 3 (omega arith))

  head-same : header_good c ≡ header_good b
  unfolding header_good
  head-same = rw (header-same, fields-same, same.size)

  end-good-same : HeaderFits b → length_good c ≡ length_good b
  unfolding length_good
  end-good-same fits =
      let end = records_end b (record_count b) in
      rw (count_same, end_same (record_count b), same.size, behind fits end (records-behind b (record_count b)))

  checks-same : HeaderFits b → table_checks c ≡ table_checks b
  unfolding table_checks
  checks-same fits =
      rw (
        size_same,
        kind-same,
        date-same,
        head-same,
        form.mark-same b c fits (same-form fits),
        form.descriptors_same b c fits (same-form fits),
        form.names_same b c fits (same-form fits),
        form.memo_same b c fits (same-form fits),
        form.filled-same b c fits (same-form fits),
        end-good-same fits,
      )

  -- where the header does not fit, one of 1 to 4 refuses both tables
  first_four : (more less : List (Bool × ℕ)) → (size_good b ≡ true → header_good b ≡ false)
      → first_refusal (table_checks c ++ more) ≡ first_refusal (table_checks b ++ less)
  unfolding table_checks first_refusal
  first_four more less bad =
      rw (size_same, kind-same, date-same, head-same) (either (size_good b) (λ size. rw (size, bad size)) (λ size. rw size))

  -- a call's checks after the table's
  pub checks_then : (more less : List (Bool × ℕ)) → (HeaderFits b → first_refusal more ≡ first_refusal less)
      → first_refusal (table_checks c ++ more) ≡ first_refusal (table_checks b ++ less)
  checks_then more less alike =
      either (size_good b)
      (λ size. either (header_good b)
      (λ head. let fits = header-fits b size head in rw (checks-same fits) (first-same (table_checks b) more less (alike fits)))
      (λ head. first_four more less (λ z. head)))
      (λ size. first_four more less (λ z. absurd (false≢true (sym size ∙ z))))

  -- ---- the calls on a table's header

  -- Theorem: the check of the table answers the same
  pub refusal-same : table_refusal c ≡ table_refusal b
  unfolding table_refusal
  refusal-same = ap first_refusal (sym (append-nil (table_checks c))) ∙ checks_then [] [] (λ fits. refl) ∙ ap first_refusal (append-nil (table_checks b))

  -- Theorem: so does the check that hands out the shape
  pub shape_same : check_table c ≡ check_table b
  unfolding check_table shape_of
  shape_same = rw (refusal-same, early 0 (omega arith), count_same, header-same, length-same, fields-same)
