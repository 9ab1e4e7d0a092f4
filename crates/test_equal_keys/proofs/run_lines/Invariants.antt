-- The loop of `test_equal_keys::run_lines` keeps the buffer's length, and ends: the rest of the list gets shorter with each line.
use Rattle.std.proofs.Common.{length, ◌≡◌}
use Rattle.test_equal_keys.proofs.run_lines.Given as goal

abbrev pub invariant-loop-rest : goal.invariant-loop-rest
invariant-loop-rest g l = length l.index ≡ length l.initial.index

abbrev pub decreases-loop-rest : goal.decreases-loop-rest
decreases-loop-rest g l = length l.rest
