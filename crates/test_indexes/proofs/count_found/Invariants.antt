-- The loop of `count_found` ends: the rest of the calls gets shorter with each line.
use Rattle.std.proofs.Common.{length}
use Rattle.test_indexes.proofs.count_found.Given as goal

abbrev pub decreases-loop-rest : goal.decreases-loop-rest
decreases-loop-rest l = length l.rest
