-- Laws: either walk from any position to done. The default hands out every record, in order, with its mark, and 15 for each bad deletion byte; the skipping
-- walk gives the same answers but for the deleted records. Assumes nothing.
use Prim.Native.Nat.{ℕ, zero, suc, ◌+◌, ◌-◌, ◌≤◌, ◌<◌}
use Rattle.std.specs.Prelude.{◌≡◌, Bool, true, false, ◌&&◌, cond, length, get_or, None, Some, Ok, Err}
use Rattle.std.proofs.Math.Path.{refl, ap}
use Rattle.std.proofs.Common.{sym, ◌∙◌, not-suc-le-zero, eqb-true}
use mathlib.Core.List.{List, [], ◌∷◌, ◌++◌, map}
use native.Mathlib.Omega.{arith}
use Rattle.std.proofs.Math.Dec.{eqb}
use Rattle.basis.specs.Tests.{either}
use Rattle.dbf_table.specs.Table.{record_count, deletion_byte, kept_mark, deleted_mark, table_refusal}
use Rattle.dbf_walk.specs.declared.Position.{Position}
use Rattle.dbf_walk.specs.Walk.{Step, Walked, marks_from, shown, step_at, step_from, step_by, walk_step, live_step}

-- ---- runs

-- an answer and the answers of the calls after it: none after done
abbrev pub and_then : Step → List Step → List Step
and_then (Ok (Some r)) rest = Ok (Some r) ∷ rest
and_then (Ok None) rest = Ok None ∷ []
and_then (Err n) rest = Err n ∷ rest

-- the answers of at most `calls` calls of a step, each from the position that the last one left, until done
unfoldable pub walk_run : (Position → Walked) → Position → ℕ → List Step
walk_run step position zero = []
walk_run step position (suc calls) = and_then (step position).answer (walk_run step (step position).position calls)

-- what a walk answers at some records
unfoldable pub handed_out : Bool → List (ℕ × ℕ) → List Step
handed_out skips marks = map step_at (shown skips marks)

pub handed_append : (skips : Bool) (marks others : List (ℕ × ℕ)) → handed_out skips (marks ++ others) ≡ handed_out skips marks ++ handed_out skips others
unfolding handed_out shown
handed_append skips [] others = refl
handed_append skips (r ∷ marks) others =
    let rest = handed_append skips marks others in
    either (skips && eqb r.1 deleted_mark) (λ over. rw (over, rest)) (λ next. rw (next, rest))

-- the records after those that a position has passed
abbrev pub marks_after : List ℕ → Position → List (ℕ × ℕ)
marks_after b position = marks_from b position.passed (record_count b - position.passed)

-- an answer at a record is not done
at_then : (r : ℕ × ℕ) (rest : List Step) → and_then (step_at r) rest ≡ step_at r ∷ rest
unfolding step_at
at_then r rest =
    either (eqb r.1 kept_mark)
    (λ kept. rw kept)
    (λ other. either (eqb r.1 deleted_mark) (λ deleted. rw (other, deleted)) (λ bad. rw (other, bad)))

module _ (skips : Bool) (b : List ℕ) (good : table_refusal b ≡ 0) where
  -- a step of a good table, and the calls after it
  step_then : (passed left calls : ℕ) → record_count b - passed ≡ left
      → walk_run (step_by skips b) (record { passed = passed }) (suc calls)
      ≡ and_then (step_from skips b passed passed left).answer (walk_run (step_by skips b) (step_from skips b passed passed left).position calls)
  unfolding walk_run step_by
  step_then passed left calls e = rw (good, e)

  run-from : (left position passed calls : ℕ) → record_count b - passed ≡ left → left ≤ calls
      → and_then (step_from skips b position passed left).answer (walk_run (step_by skips b) (step_from skips b position passed left).position calls)
      ≡ handed_out skips (marks_from b passed left) ++ (Ok None ∷ [])
  unfolding step_from handed_out shown marks_from
  run-from zero position passed calls e h = refl
  run-from (suc left) position passed zero e h = absurd (not-suc-le-zero h)
  run-from (suc left) position passed (suc calls) e h =
      let here : record_count b - (passed + 1) ≡ left = omega arith in
      let rest = step_then (passed + 1) left calls here ∙ run-from left (passed + 1) (passed + 1) calls here (omega arith) in
      either (skips && eqb (deletion_byte b (passed + 1)) deleted_mark)
      (λ over. rw over (run-from left position (passed + 1) (suc calls) here (omega arith)))
      (λ next. rw next (at_then (passed + 1, deletion_byte b (passed + 1)) _
      ∙ ap (λ (l : List Step). step_at (passed + 1, deletion_byte b (passed + 1)) ∷ l) rest))

  -- a walk from any position, with more calls than there are records left
  pub walk-run : (position : Position) (calls : ℕ) → record_count b - position.passed < calls
      → walk_run (step_by skips b) position calls ≡ handed_out skips (marks_after b position) ++ (Ok None ∷ [])
  walk-run position zero h = absurd (not-suc-le-zero h)
  walk-run position (suc calls) h =
      let passed = position.passed in
      step_then passed (record_count b - passed) calls refl ∙ run-from (record_count b - passed) passed passed calls refl (omega arith)

-- ---- the two walks

-- an answer before others, left out if it hands out a deleted record
abbrev pub unless_deleted : Step → List Step → List Step
unless_deleted (Ok (Some r)) rest = cond r.deleted rest (Ok (Some r) ∷ rest)
unless_deleted (Ok None) rest = Ok None ∷ rest
unless_deleted (Err n) rest = Err n ∷ rest

-- the answers without those that hand out a deleted record
abbrev pub undeleted : List Step → List Step
undeleted [] = []
undeleted (answer ∷ rest) = unless_deleted answer (undeleted rest)

handed_undeleted : (marks : List (ℕ × ℕ)) → undeleted (handed_out false marks ++ (Ok None ∷ [])) ≡ handed_out true marks ++ (Ok None ∷ [])
unfolding handed_out shown step_at
handed_undeleted [] = refl
handed_undeleted (r ∷ rest) =
    let others = handed_undeleted rest in
    either (eqb r.1 kept_mark)
    (λ kept. let other : eqb r.1 deleted_mark ≡ false = rw (eqb-true r.1 kept_mark kept) in rw (other, kept, others))
    (λ other. either (eqb r.1 deleted_mark) (λ deleted. rw (deleted, other, others)) (λ bad. rw (bad, other, bad, others)))

-- "From the same position over the same table, each walked to done, the undeleted numbers from one are exactly the numbers from the other, in order, and the
-- 15s stand at the same places among them"
pub walks_agree : (b : List ℕ) → table_refusal b ≡ 0 → (position : Position) (calls calls' : ℕ)
    → record_count b - position.passed < calls → record_count b - position.passed < calls'
    → undeleted (walk_run (walk_step b) position calls) ≡ walk_run (live_step b) position calls'
walks_agree b good position calls calls' h h' =
    ap undeleted (walk-run false b good position calls h) ∙ handed_undeleted (marks_after b position) ∙ sym (walk-run true b good position calls' h')

-- ---- the default walk, from 0

handed_length : (b : List ℕ) (left passed : ℕ) → length (handed_out false (marks_from b passed left) ++ (Ok None ∷ [])) ≡ left + 1
unfolding handed_out shown marks_from
handed_length b zero passed = refl
handed_length b (suc left) passed = omega (arith, handed_length b left (passed + 1))

handed_at : (b : List ℕ) (left passed k i : ℕ) (past : Step) → i ≡ passed + 1 + k → k < left
    → get_or (handed_out false (marks_from b passed left) ++ (Ok None ∷ [])) k past ≡ step_at (i, deletion_byte b i)
unfolding handed_out shown marks_from
handed_at b zero passed k i past e h = absurd (not-suc-le-zero h)
handed_at b (suc left) passed zero i past e h = let first : i ≡ passed + 1 = omega arith in rw first
handed_at b (suc left) passed (suc k) i past e h = handed_at b left (passed + 1) k i past (omega arith) (omega arith)

handed_done : (b : List ℕ) (left passed : ℕ) (past : Step) → get_or (handed_out false (marks_from b passed left) ++ (Ok None ∷ [])) left past ≡ Ok None
unfolding handed_out shown marks_from
handed_done b zero passed past = refl
handed_done b (suc left) passed past = handed_done b left (passed + 1) past

-- "every record with a mark": n answers and done, the i-th of them for record i
pub record Whole (b : List ℕ) (answers : List Step) : Type 0 where
  pub count : length answers ≡ record_count b + 1
  pub each : (i : ℕ) (past : Step) → 1 ≤ i → i ≤ record_count b → get_or answers (i - 1) past ≡ step_at (i, deletion_byte b i)
  pub ends : (past : Step) → get_or answers (record_count b) past ≡ Ok None

pub walk-whole : (b : List ℕ) → table_refusal b ≡ 0 → (calls : ℕ) → record_count b < calls → Whole b (walk_run (walk_step b) (record { passed = 0 }) calls)
walk-whole b good calls h =
    let n = record_count b in
    let all : n - 0 ≡ n = omega arith in
    rw (walk-run false b good (record { passed = 0 }) calls (omega arith), all) (record {
      count = handed_length b n 0;
      each = λ i past from to. handed_at b n 0 (i - 1) i past (omega arith) (omega arith);
      ends = λ past. handed_done b n 0 past;
    })
