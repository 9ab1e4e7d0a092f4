-- The loop of `test_equal_keys::run_each` ends: the rest of the list gets shorter with each line.
use Rattle.std.proofs.Common.{length}
use Rattle.test_equal_keys.proofs.run_each.Given as goal

abbrev pub decreases-loop-rest : goal.decreases-loop-rest
decreases-loop-rest g l = length l.rest
