-- The loop of `test_writing::make_calls`: what is lent is the front of the buffer. It ends: what is left of the list falls with each line.
use Rattle.std.proofs.Common.{length, ◌≤◌}
use Rattle.test_writing.proofs.make_calls.Given as goal

abbrev pub invariant-loop-rest : goal.invariant-loop-rest
invariant-loop-rest g l = l.room ≤ 4096

abbrev pub decreases-loop-rest : goal.decreases-loop-rest
decreases-loop-rest g l = length l.rest
