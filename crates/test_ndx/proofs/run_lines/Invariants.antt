-- The loop of `test_ndx::run_lines` ends: the rest of the list gets shorter with each line.
use Rattle.std.proofs.Common.{length}
use Rattle.test_ndx.proofs.run_lines.Given as goal

abbrev pub decreases-loop-rest : goal.decreases-loop-rest
decreases-loop-rest g l = length l.rest
