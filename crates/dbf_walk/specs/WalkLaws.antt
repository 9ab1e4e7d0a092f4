-- Laws: the loop of a step meets the rule, one record after another. Assumes nothing.
use Rattle.std.specs.Prelude.{ℕ, suc, ◌+◌, ◌-◌, ◌≤◌, ◌<◌, ◌≡◌, Bool, true, false, ◌&&◌, List, eqb, None, Err, Ok}
use Rattle.std.proofs.Common.{arith, ne_eqb}
use Rattle.octets.specs.Bytes.{byte_at}
use Rattle.dbf_table.specs.Table.{records_end, record_start, deletion_byte, kept_mark, deleted_mark, check_table}
use Rattle.dbf_table.specs.TableLaws.{good_shape, refused_check}
use Rattle.dbf_table.specs.declared.Shape.{Shape}
use Rattle.dbf_walk.specs.declared.Position.{Position}
use Rattle.dbf_walk.specs.Walk.{Step, handed, marks_from, shown, step_at, step_to, step_from, step_by}

-- the deletion byte of record k + 1 stands where the first k records end
pub mark-after : (b : List ℕ) (k : ℕ) → deletion_byte b (k + 1) ≡ byte_at b (records_end b k)
unfolding deletion_byte record_start
mark-after b k = let e : k + 1 - 1 ≡ k = omega arith in rw e

-- what a mark decides
pub at-kept : (number mark : ℕ) → mark ≡ kept_mark → step_at (number, mark) ≡ handed number false
unfolding step_at
at-kept number mark e = rw e

pub at_deleted : (number mark : ℕ) → mark ≡ deleted_mark → step_at (number, mark) ≡ handed number true
unfolding step_at
at_deleted number mark e = rw e

pub at-bad : (number mark : ℕ) → (mark ≡ kept_mark → ⊥) → (mark ≡ deleted_mark → ⊥) → step_at (number, mark) ≡ Err 15
unfolding step_at
at-bad number mark e f = rw (ne_eqb mark kept_mark e, ne_eqb mark deleted_mark f)

-- no record is left
pub step_end : (skips : Bool) (b : List ℕ) (position passed n : ℕ) → n ≤ passed → step_from skips b position passed (n - passed) ≡ step_to (Ok None) position
unfolding step_from shown marks_from
step_end skips b position passed n h = let e : n - passed ≡ 0 = omega arith in rw e

-- by its mark the next record is handed out, or passed over
module _ (skips : Bool) (b : List ℕ) (position passed n : ℕ) (h : passed < n) (mark : ℕ) (is : mark ≡ deletion_byte b (passed + 1)) where
  one_left : n - passed ≡ suc (n - (passed + 1))
  one_left = omega arith

  pub step-shown : (answer : Step) → skips && eqb mark deleted_mark ≡ false → answer ≡ step_at (passed + 1, mark)
      → step_from skips b position passed (n - passed) ≡ step_to answer (passed + 1)
  unfolding step_from shown marks_from
  step-shown answer e at-record = rw (one_left, ← is, e, at-record)

  pub step-over : skips && eqb mark deleted_mark ≡ true
      → step_from skips b position passed (n - passed) ≡ step_from skips b position (passed + 1) (n - (passed + 1))
  unfolding step_from shown marks_from
  step-over e = rw (one_left, ← is, e)

-- a step by the case of the table's check
pub step-good : (skips : Bool) (b : List ℕ) (s : Shape) (position : Position) → check_table b ≡ Ok s
    → step_by skips b position ≡ step_from skips b position.passed position.passed (s.records - position.passed)
unfolding step_by
step-good skips b s position e = let shaped = good_shape b s e in rw (shaped.table, shaped.records)

pub step-refused : (skips : Bool) (b : List ℕ) (n : ℕ) (position : Position) → check_table b ≡ Err n
    → step_by skips b position ≡ step_to (Err n) position.passed
unfolding step_by
step-refused skips b n position e =
    let refused = refused_check b n e in
    rw (← refused.0, ne_eqb n 0 refused.1)
