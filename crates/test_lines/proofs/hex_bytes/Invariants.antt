-- The loop of `hex_bytes`: the buffer keeps its length.
use Rattle.std.proofs.Common.{◌≡◌, length}
use Rattle.test_lines.proofs.hex_bytes.Given as goal

abbrev pub invariant-loop-i : goal.invariant-loop-i
invariant-loop-i l = length l.out ≡ length l.initial.out
