-- The bytes before the loop's place are set.
use Rattle.std.proofs.Common.{◌≡◌, take, replicate}
use Rattle.octets.proofs.fill.Given as goal

abbrev pub invariant-loop-byte : goal.invariant-loop-byte
invariant-loop-byte l = take l.byte-index l.byte-items ≡ replicate l.byte-index l.value
