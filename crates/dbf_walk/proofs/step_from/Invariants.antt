-- The step from the position is the step from the records passed.
use Rattle.std.proofs.Common.{◌≡◌, ◌-◌}
use Rattle.dbf_walk.specs.Walk.{step_from}
use Rattle.dbf_walk.proofs.step_from.Given as goal

abbrev pub invariant-loop-passed : goal.invariant-loop-passed
invariant-loop-passed l =
    (l.position ≡ l.initial.position)
    × (step_from l.skips l.table l.position.passed l.position.passed (l.n - l.position.passed) ≡ step_from l.skips l.table l.position.passed l.passed (l.n - l.passed))
