-- Laws: how the code counts a sheet's lines and refusals. Assumes nothing.
use Rattle.std.specs.Prelude.{◌≡◌, List, eqb, Err, Ok}
use Prim.Native.Nat.{ℕ, suc, ◌+◌, ◌-◌, ◌≤◌, ◌<◌}
use Rattle.std.proofs.Common.{ne_eqb}
use native.Mathlib.Omega.{arith}
use Rattle.basis.specs.Tests.{either}
use Rattle.refusal.specs.Checks.{first_refusal}
use Rattle.dbf_table.specs.Table.{deleted_mark, record_count, deletion_byte}
use Rattle.dilution.specs.Dilution.{sheet_checks, record_dilution}
use Rattle.dilution.specs.DilutionLaws.{record-line}
use Rattle.dilution.specs.Dilution.{Dilution}
use Rattle.dilute_sheet.specs.declared.input.Request.{Request}
use Rattle.dilute_sheet.specs.Sheet.{answer_on}
use Rattle.dilute_sheet.specs.Tally.{refusals, tally, lines_at, refused_at, sum_after, tally_of, request_verdict}

-- ---- one record

refusals-few : (d : Dilution) → refusals d ≤ 1
unfolding refusals
refusals-few (Ok v) = omega arith
refusals-few (Err n) = omega arith

module _ (t : List ℕ) (i : ℕ) where
  pub lines_few : lines_at t i ≤ 1
  unfolding lines_at
  lines_few = either (eqb (deletion_byte t i) deleted_mark) (λ e. rw e (omega arith)) (λ e. rw e (omega arith))

  pub refused-few : (b : List ℕ) (q : Request) → refused_at t b q i ≤ 1
  unfolding refused_at
  refused-few b q = either (eqb (deletion_byte t i) deleted_mark) (λ e. rw e (omega arith)) (λ e. rw e (refusals-few (answer_on t b q i)))

module _ (t b : List ℕ) (q : Request) (i : ℕ) where
  pub tally_deleted : deletion_byte t i ≡ deleted_mark → tally (lines_at t i) (refused_at t b q i) ≡ tally 0 0
  unfolding lines_at refused_at
  tally_deleted e = rw e

  pub tally-kept : first_refusal (sheet_checks t b q.barcode_field q.field) ≡ 0 → 1 ≤ i → i ≤ record_count t → (deletion_byte t i ≡ deleted_mark → ⊥)
      → tally (lines_at t i) (refused_at t b q i) ≡ tally 1 (refusals (record_dilution t i q.field q.target q.final_volume))
  unfolding lines_at refused_at answer_on
  tally-kept none from to kept =
      rw (ne_eqb (deletion_byte t i) deleted_mark kept, record-line t b q.barcode_field q.field none i q.target q.final_volume from to)

-- ---- one record after another

-- what is counted so far, and what the records that are left have, make `total`
module _ (f : ℕ → ℕ) (n total : ℕ) where
  pub sum-start : sum_after f 0 n ≡ total → 0 + sum_after f 0 (n - 0) ≡ total
  sum-start e = let all : n - 0 ≡ n = omega arith in rw all (omega (arith, e))

  module _ (i : ℕ) (so_far : ℕ) (sum : so_far + sum_after f i (n - i) ≡ total) where
    pub sum-next : i < n → (one : ℕ) → one ≡ f (i + 1) → so_far + one + sum_after f (i + 1) (n - (i + 1)) ≡ total
    unfolding sum_after
    sum-next l one is =
        let e : n - i ≡ suc (n - (i + 1)) = omega arith in
        let more : sum_after f i (n - i) ≡ f (i + 1) + sum_after f (i + 1) (n - (i + 1)) = rw e in
        omega (arith, sum, more, is)

    pub sum-end : n ≤ i → so_far ≡ total
    unfolding sum_after
    sum-end l =
        let e : n - i ≡ 0 = omega arith in
        let none : sum_after f i (n - i) ≡ 0 = rw e in
        omega (arith, sum, none)

pub tally-end : (t b : List ℕ) (q : Request) (n lines refused : ℕ) → n ≡ record_count t → lines ≡ sum_after (lines_at t) 0 n
    → refused ≡ sum_after (refused_at t b q) 0 n → tally lines refused ≡ tally_of t b q
unfolding tally_of
tally-end t b q n lines refused is a c = rw (← is, a, c)

-- ---- a request

module _ (t b : List ℕ) (q : Request) where
  abbrev refusal : ℕ
  refusal = first_refusal (sheet_checks t b q.barcode_field q.field)

  pub verdict-alone : (refusal ≡ 0 → ⊥) → request_verdict t b q ≡ Err refusal
  unfolding request_verdict
  verdict-alone some = rw (ne_eqb refusal 0 some)

  pub verdict_lines : refusal ≡ 0 → request_verdict t b q ≡ Ok (tally_of t b q)
  unfolding request_verdict
  verdict_lines none = rw none
