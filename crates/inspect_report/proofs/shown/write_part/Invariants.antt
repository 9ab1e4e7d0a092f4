-- The loop of `write_part`: each byte is shown by at most four.
use Rattle.std.proofs.Common.{◌≤◌, ◌*◌}
use Rattle.inspect_report.proofs.shown.write_part.Given as goal

abbrev pub invariant-loop-i : goal.invariant-loop-i
invariant-loop-i g l = l.end ≤ 4 * l.i
