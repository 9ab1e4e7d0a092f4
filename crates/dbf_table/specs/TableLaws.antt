-- Laws: what each check gives the later ones, and what a table without refusal gives every call on it (`Layout`). Assumes nothing.
use Rattle.std.specs.Prelude.{ℕ, ◌+◌, ◌*◌, ◌≤◌, ◌<◌, ◌≡◌, Bool, true, ◌&&◌, List, ◌++◌, length, eqb, leb, Err, Ok}
use Rattle.std.proofs.Common.{sym, ap, ◌∙◌, arith, lit<, leb-true, eqb-true, eq-eqb, ne_eqb}
use Rattle.std.proofs.lemmas.Bool.{eqb-false}
use Rattle.basis.specs.Tests.{either, both, impossible}
use Rattle.basis.specs.Lists.{All}
use Rattle.refusal.specs.Checks.{first_refusal}
use Rattle.refusal.specs.CheckLaws.{Numbered, first-none, first-after, first-before}
use Rattle.octets.specs.Bytes.{byte_at}
use Rattle.dbf_table.specs.RangeLaws.{all-at}
use Rattle.dbf_table.specs.Table.{min_table, max_table, max_fields, max_record, file_end, table_kind, header_length_of, record_length_of, record_count}
use Rattle.dbf_table.specs.Table.{records_end, field_count, field_offset, size_good, kind_good, header_good, descriptor_good, fields_good, record_length_good}
use Rattle.dbf_table.specs.Table.{length_good, table_checks, table_refusal, shape_of, check_table}
use Rattle.dbf_table.specs.declared.Shape.{Shape}

-- ---- single checks

-- check 1: a table has the 32 bytes before the descriptors
pub size-long : (b : List ℕ) → size_good b ≡ true → min_table ≤ length b
unfolding size_good
size-long b h = leb-true min_table (length b) (both (leb min_table (length b)) (leb (length b) max_table) h).0

-- the header, with its descriptors and its end mark, lies in the table
pub record HeaderFits (b : List ℕ) : Type 0 where
  pub long : min_table ≤ length b
  pub form : header_length_of b ≡ 33 + 32 * field_count b
  pub some : 1 ≤ field_count b
  pub few : field_count b ≤ max_fields
  pub inside : header_length_of b ≤ length b

-- checks 1 and 4
pub header-fits : (b : List ℕ) → size_good b ≡ true → header_good b ≡ true → HeaderFits b
unfolding header_good
header-fits b s h =
    let form = eqb (header_length_of b) (33 + 32 * field_count b) in
    let some = leb 1 (field_count b) in
    let few = leb (field_count b) max_fields in
    let h₁ = both (form && some && few) (leb (header_length_of b) (length b)) h in
    let h₂ = both (form && some) few h₁.0 in
    let h₃ = both form some h₂.0 in
    record {
      long = size-long b s;
      form = eqb-true _ _ h₃.0;
      some = leb-true _ _ h₃.1;
      few = leb-true _ _ h₂.1;
      inside = leb-true _ _ h₁.1;
    }

-- check 10: the records lie in the table
records-inside : (b : List ℕ) → length_good b ≡ true → records_end b (record_count b) ≤ length b
unfolding length_good
records-inside b h =
    let end = records_end b (record_count b) in
    either (eqb (length b) end)
    (λ e. omega (arith, eqb-true (length b) end e))
    (λ e. let more = both (eqb (length b) (end + 1)) (eqb (byte_at b end) file_end) (rw e at h) in
    omega (arith, eqb-true (length b) (end + 1) more.0))

-- ---- a table without refusal

pub record Layout (b : List ℕ) : Type 0 where
  pub header : HeaderFits b
  pub kind : kind_good b ≡ true
  pub fields : (j : ℕ) → j < field_count b → descriptor_good b j ≡ true
  -- the deletion byte and the fields fill a record
  pub filled : record_length_of b ≡ field_offset b (field_count b)
  pub small : record_length_of b ≤ max_record
  pub records : records_end b (record_count b) ≤ length b

-- no check of a table has the number 0
pub table-numbered : (b : List ℕ) → All Numbered (table_checks b)
unfolding table_checks
table-numbered b =
    (lit< tt, (lit< tt, (lit< tt, (lit< tt, (lit< tt, (lit< tt, (lit< tt, (lit< tt, (lit< tt, (lit< tt, tt))))))))))

pub layout : (b : List ℕ) → table_refusal b ≡ 0 → Layout b
unfolding table_refusal table_checks fields_good record_length_good
layout b e =
    let held = first-none (table_checks b) (table-numbered b) e in
    let after-header = held.1.1.1.1.1 in
    let sum = both (eqb (record_length_of b) (field_offset b (field_count b))) (leb (record_length_of b) max_record) after-header.1.1.1.0 in
    record {
      header = header-fits b held.0 held.1.1.1.0;
      kind = held.1.0;
      fields = all-at (descriptor_good b) (field_count b) after-header.0;
      filled = eqb-true _ _ sum.0;
      small = leb-true _ _ sum.1;
      records = records-inside b after-header.1.1.1.1.0;
    }

-- ---- the answer

pub check_good : (b : List ℕ) → table_refusal b ≡ 0 → check_table b ≡ Ok (shape_of b)
unfolding check_table
check_good b e = rw (eq-eqb (table_refusal b) 0 e)

pub check_refused : (b : List ℕ) → (table_refusal b ≡ 0 → ⊥) → check_table b ≡ Err (table_refusal b)
unfolding check_table
check_refused b e = rw (ne_eqb (table_refusal b) 0 e)

-- what a caller learns from the answer's case
pub good_check : (b : List ℕ) (s : Shape) → check_table b ≡ Ok s → (table_refusal b ≡ 0) × (s ≡ shape_of b)
good_check b s e =
    either (eqb (table_refusal b) 0)
    (λ z. let zero = eqb-true (table_refusal b) 0 z in let q = check_good b zero in (zero, cc))
    (λ z. let q = check_refused b (eqb-false (table_refusal b) 0 z) in impossible (cc))

pub refused_check : (b : List ℕ) (n : ℕ) → check_table b ≡ Err n → (n ≡ table_refusal b) × (n ≡ 0 → ⊥)
refused_check b n e =
    either (eqb (table_refusal b) 0)
    (λ z. let q = check_good b (eqb-true (table_refusal b) 0 z) in impossible (cc))
    (λ z.
    let q = check_refused b (eqb-false (table_refusal b) 0 z) in
    let s : n ≡ table_refusal b = cc in (s, λ w. eqb-false (table_refusal b) 0 z (sym s ∙ w)))

-- so each number of the shape is the header's own
pub record Shaped (b : List ℕ) (s : Shape) : Type 0 where
  pub table : table_refusal b ≡ 0
  pub kind : s.kind ≡ table_kind b
  pub records : s.records ≡ record_count b
  pub header : s.header_length ≡ header_length_of b
  pub length : s.record_length ≡ record_length_of b
  pub fields : s.fields ≡ field_count b

pub good_shape : (b : List ℕ) (s : Shape) → check_table b ≡ Ok s → Shaped b s
unfolding shape_of
good_shape b s e =
    let good = good_check b s e in
    record {
      table = good.0;
      kind = ap (λ (x : Shape). x.kind) good.1;
      records = ap (λ (x : Shape). x.records) good.1;
      header = ap (λ (x : Shape). x.header_length) good.1;
      length = ap (λ (x : Shape). x.record_length) good.1;
      fields = ap (λ (x : Shape). x.fields) good.1;
    }

-- a call whose checks come after the table's: its refusal, in each case of the table's answer
pub good_then : (b : List ℕ) (s : Shape) (more : List (Bool × ℕ)) → check_table b ≡ Ok s → first_refusal (table_checks b ++ more) ≡ first_refusal more
unfolding table_refusal
good_then b s more e = first-after (table_checks b) more (table-numbered b) (good_check b s e).0

pub refused_then : (b : List ℕ) (n : ℕ) (more : List (Bool × ℕ)) → check_table b ≡ Err n → first_refusal (table_checks b ++ more) ≡ n
unfolding table_refusal
refused_then b n more e =
    let refused = refused_check b n e in
    first-before (table_checks b) more (λ z. refused.1 (refused.0 ∙ z)) ∙ sym refused.0
