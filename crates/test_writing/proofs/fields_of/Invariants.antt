-- The loop of `test_writing::fields_of` ends, and counts in range: each field takes a byte of the list or more.
use Rattle.std.proofs.Common.{length, ◌≡◌, ◌≤◌, ◌+◌}
use Rattle.dbf_create.specs.Laying.{room_length}
use Rattle.test_writing.proofs.fields_of.Given as goal

abbrev pub invariant-loop-rest : goal.invariant-loop-rest
invariant-loop-rest l = (l.count + length l.rest ≤ length l.list) × (length l.room ≡ room_length)

abbrev pub decreases-loop-rest : goal.decreases-loop-rest
decreases-loop-rest l = length l.rest
