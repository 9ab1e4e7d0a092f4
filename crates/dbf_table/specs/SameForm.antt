-- Laws: what a table's header says of its form, all but the update date and the record count, stands in byte 0 and from byte 8 on, and not in bytes 12 to 15
-- of a descriptor. So two tables that agree there have one form, whatever their dates, counts and lengths. Assumes nothing.
use Rattle.std.specs.Prelude.{ℕ, zero, suc, ◌+◌, ◌*◌, ◌-◌, ◌≤◌, ◌<◌, ◌≡◌, refl, Bool, true, List, length}
use Rattle.std.proofs.Common.{arith}
use borrow.Author.Tests.{le-leb, eq-eqb}
use Rattle.octets.specs.Bytes.{byte_at, le16}
use Rattle.dbf_table.specs.Range.{all_below, any_below, sum_below}
use Rattle.dbf_table.specs.Table.{max_fields, descriptor, field_type, field_length, field_decimals, field_offset, field_count, header_length_of}
use Rattle.dbf_table.specs.Table.{record_length_of, records_end, kind_good, header_good, end_mark_good, name_good, name_goes_on, descriptor_good, fields_good}
use Rattle.dbf_table.specs.Table.{same_byte, same_name, name_taken, names_differ, is_memo, has_memo, memo_kind_good, record_length_good}
use Rattle.dbf_table.specs.TableLaws.{HeaderFits}

-- ---- tests and sums that agree on every number below a bound

all_same : (p q : ℕ → Bool) (n : ℕ) → ((j : ℕ) → j < n → p j ≡ q j) → all_below p n ≡ all_below q n
unfolding all_below
all_same p q zero h = refl
all_same p q (suc n) h = rw (all_same p q n (λ j l. h j (omega arith)), h n (omega arith))

any_same : (p q : ℕ → Bool) (n : ℕ) → ((j : ℕ) → j < n → p j ≡ q j) → any_below p n ≡ any_below q n
unfolding any_below
any_same p q zero h = refl
any_same p q (suc n) h = rw (any_same p q n (λ j l. h j (omega arith)), h n (omega arith))

sum_same : (p q : ℕ → ℕ) (n : ℕ) → ((j : ℕ) → j < n → p j ≡ q j) → sum_below p n ≡ sum_below q n
unfolding sum_below
sum_same p q zero h = refl
sum_same p q (suc n) h = rw (sum_same p q n (λ j l. h j (omega arith)), h n (omega arith))

-- ---- two tables of one form

-- byte k is none of the bytes 12 to 15 of a field's descriptor
abbrev pub Elsewhere : List ℕ → ℕ → Type 0
Elsewhere b k = (j : ℕ) → j < field_count b → descriptor j + 12 ≤ k → k < descriptor j + 16 → ⊥

pub record SameForm (b c : List ℕ) : Type 0 where
  pub first : byte_at c 0 ≡ byte_at b 0
  pub rest : (k : ℕ) → 8 ≤ k → k < header_length_of b → Elsewhere b k → byte_at c k ≡ byte_at b k

module _ (b c : List ℕ) (fits : HeaderFits b) (same : SameForm b c) where
  -- a byte of a descriptor: of its name or its type, its length or its decimals
  inner : (j k : ℕ) → j < field_count b → k < 12 → byte_at c (descriptor j + k) ≡ byte_at b (descriptor j + k)
  inner j k l m = same.rest (descriptor j + k) (omega arith) (omega (arith, fits.form)) (λ i n from to. omega arith)

  later : (j k : ℕ) → j < field_count b → 16 ≤ k → k < 18 → byte_at c (descriptor j + k) ≡ byte_at b (descriptor j + k)
  later j k l from to = same.rest (descriptor j + k) (omega arith) (omega (arith, fits.form)) (λ i n low high. omega arith)

  -- a byte before the descriptors
  early : (k : ℕ) → 8 ≤ k → k < 32 → byte_at c k ≡ byte_at b k
  early k l m = same.rest k l (omega (arith, fits.form)) (λ i n from to. omega arith)

  pub header-same : header_length_of c ≡ header_length_of b
  unfolding header_length_of le16
  header-same = rw (early 8 (omega arith) (omega arith), early 9 (omega arith) (omega arith))

  pub length-same : record_length_of c ≡ record_length_of b
  unfolding record_length_of le16
  length-same = rw (early 10 (omega arith) (omega arith), early 11 (omega arith) (omega arith))

  pub fields-same : field_count c ≡ field_count b
  unfolding field_count
  fields-same = rw header-same

  pub end_same : (k : ℕ) → records_end c k ≡ records_end b k
  unfolding records_end
  end_same k = rw (header-same, length-same)

  pub type-same : (j : ℕ) → j < field_count b → field_type c j ≡ field_type b j
  type-same j l = inner j 11 l (omega arith)

  pub width_same : (j : ℕ) → j < field_count b → field_length c j ≡ field_length b j
  width_same j l = later j 16 l (omega arith) (omega arith)

  pub decimals-same : (j : ℕ) → j < field_count b → field_decimals c j ≡ field_decimals b j
  decimals-same j l = later j 17 l (omega arith) (omega arith)

  pub offset-same : (j : ℕ) → j ≤ field_count b → field_offset c j ≡ field_offset b j
  unfolding field_offset
  offset-same j l = rw (sum_same (field_length c) (field_length b) j (λ i m. width_same i (omega arith)))

  -- ---- check by check

  pub kind-same : kind_good c ≡ kind_good b
  unfolding kind_good
  kind-same = rw same.first

  pub mark-same : end_mark_good c ≡ end_mark_good b
  unfolding end_mark_good
  mark-same =
      rw (
        header-same,
        same.rest (header_length_of b - 1) (omega (arith, fits.form)) (omega (arith, fits.form)) (λ j l from to. omega (arith, fits.form)),
      )

  name-same : (j : ℕ) → j < field_count b → name_good c (descriptor j) ≡ name_good b (descriptor j)
  unfolding name_good name_goes_on
  name-same j l =
      let at = descriptor j in
      let byte : (k : ℕ) → k < 12 → byte_at c (at + k) ≡ byte_at b (at + k) = λ k m. inner j k l m in
      let next : (k : ℕ) → k < 10 → byte_at c (at + k + 1) ≡ byte_at b (at + k + 1) =
      λ k m. same.rest (at + k + 1) (omega arith) (omega (arith, fits.form)) (λ i n from to. omega arith) in
      let first : byte_at c at ≡ byte_at b at = same.rest at (omega arith) (omega (arith, fits.form)) (λ i n from to. omega arith) in
      rw (
        first,
        byte 10 (omega arith),
        all_same (name_goes_on c at) (name_goes_on b at) 10
            (λ k m. rw (byte k (omega arith), next k m)),
      )

  pub descriptors_same : fields_good c ≡ fields_good b
  unfolding fields_good descriptor_good
  descriptors_same =
      rw fields-same (all_same (descriptor_good c) (descriptor_good b) (field_count b)
      (λ j l. rw (name-same j l, type-same j l, width_same j l, decimals-same j l)))

  pair_same : (i j : ℕ) → i < field_count b → j < field_count b → same_name c i j ≡ same_name b i j
  unfolding same_name same_byte
  pair_same i j l m = all_same (same_byte c i j) (same_byte b i j) 11 (λ k n. rw (inner i k l (omega arith), inner j k m (omega arith)))

  pub names_same : names_differ c ≡ names_differ b
  unfolding names_differ name_taken
  names_same =
      rw (
        fields-same,
        any_same (name_taken c) (name_taken b) (field_count b)
            (λ i l. any_same (same_name c i) (same_name b i) i (λ j m. pair_same i j l (omega arith))),
      )

  pub memo_same : memo_kind_good c ≡ memo_kind_good b
  unfolding memo_kind_good has_memo is_memo
  memo_same = rw (same.first, fields-same, any_same (is_memo c) (is_memo b) (field_count b) (λ j l. rw (type-same j l)))

  pub filled-same : record_length_good c ≡ record_length_good b
  unfolding record_length_good
  filled-same = rw (length-same, fields-same, offset-same (field_count b) (omega arith))

  -- the header's length, if the header lies in the table
  pub form-inside : header_length_of b ≤ length c → header_good c ≡ true
  unfolding header_good
  form-inside inside =
      rw (
        header-same,
        fields-same,
        eq-eqb (header_length_of b) (33 + 32 * field_count b) fits.form,
        le-leb 1 (field_count b) fits.some,
        le-leb (field_count b) max_fields fits.few,
        le-leb (header_length_of b) (length c) inside,
      )
