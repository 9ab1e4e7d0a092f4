-- `value_lines`: each line counts 1 at most.
use Rattle.std.proofs.Common.{◌≤◌}
use Rattle.inspect_report.proofs.report.Report.value_lines.Given as goal

abbrev pub invariant-loop-j : goal.invariant-loop-j
invariant-loop-j g l = l.problems ≤ l.j
