-- Rules: a walk over a table's records, one step. Document 01: "A walk hands out the numbers of undeleted records in order" (`live_step`). Document 02, K8:
-- "the walk to hand out every record with a mark, deleted or not, as the default" (`walk_step`). Refusals 1 to 10 and 15. Cited by `walk_step` and
-- `live_step`.
use Rattle.std.specs.Prelude.{ℕ, zero, suc, ◌+◌, ◌-◌, List, [], ◌∷◌, Bool, true, false, ◌&&◌, cond, eqb, Option, None, Some, Result, Ok, Err}
use Rattle.dbf_table.specs.Table.{record_count, deletion_byte, kept_mark, deleted_mark, table_refusal}
use Rattle.dbf_walk.specs.declared.Position.{Position}
use Rattle.dbf_walk.specs.declared.Record.{Record}

-- what a step answers: a record's number and whether it is deleted, nothing if the walk is done, or a refusal's number
abbrev pub Step : Type 0
Step = Result (Option Record) ℕ

-- an answer, and the position after it
pub record Walked : Type 0 where
  pub answer : Step
  pub position : Position

-- the answer that hands out a record
abbrev pub handed : ℕ → Bool → Step
handed number deleted = Ok (Some (record { number = number; deleted = deleted }))

-- the `left` records after the first `passed`, in order: the number of each, and its mark, which is its deletion byte
unfoldable pub marks_from : List ℕ → ℕ → ℕ → List (ℕ × ℕ)
marks_from b passed zero = []
marks_from b passed (suc left) = (passed + 1, deletion_byte b (passed + 1)) ∷ marks_from b (passed + 1) left

-- those of them that a walk hands out: every one or, if it skips, all but the deleted ones
unfoldable pub shown : Bool → List (ℕ × ℕ) → List (ℕ × ℕ)
shown skips [] = []
shown skips (r ∷ rest) =
    let others = shown skips rest in
    cond (skips && eqb r.1 deleted_mark) others (r ∷ others)

-- the answer at one of them: its number, and whether it is deleted; "at a bad deletion byte it answers 15"
unfoldable pub step_at : ℕ × ℕ → Step
step_at r = cond (eqb r.1 kept_mark) (handed r.0 false) (cond (eqb r.1 deleted_mark) (handed r.0 true) (Err 15))

-- an answer, with the position after it
abbrev pub step_to : Step → ℕ → Walked
step_to answer passed = record { answer = answer; position = record { passed = passed } }

-- The step from a position to the first of some records. It "moves past that record": the position is then its number, since it "counts the records passed".
-- With none of them it "answers done and the position stays".
abbrev pub first_of : ℕ → List (ℕ × ℕ) → Walked
first_of position [] = step_to (Ok None) position
first_of position (r ∷ rest) = step_to (step_at r) r.0

-- the step from a position, once `passed` records are passed and `left` are left
unfoldable pub step_from : Bool → List ℕ → ℕ → ℕ → ℕ → Walked
step_from skips b position passed left = first_of position (shown skips (marks_from b passed left))

-- "The position counts the records passed, 0 at first; n or more is the end." A table's refusal keeps the position.
unfoldable pub step_by : Bool → List ℕ → Position → Walked
step_by skips b position =
    let passed = position.passed in
    cond (eqb (table_refusal b) 0) (step_from skips b passed passed (record_count b - passed)) (step_to (Err (table_refusal b)) passed)

-- the default: every record
abbrev pub walk_step : List ℕ → Position → Walked
walk_step = step_by false

-- "The skipping walk remains under an explicit choice."
abbrev pub live_step : List ℕ → Position → Walked
live_step = step_by true
