-- The loop of `lists::append_all`: the list keeps its length, and its calls end inside it. The rest of the text gets shorter with each line.
use Rattle.std.proofs.Common.{◌≡◌, ◌≤◌, length}
use Rattle.test_indexes.proofs.lists.append_all.Given as goal

abbrev pub invariant-loop-rest : goal.invariant-loop-rest
invariant-loop-rest l = (length l.list ≡ length l.initial.list) × (l.at ≤ length l.list)

abbrev pub decreases-loop-rest : goal.decreases-loop-rest
decreases-loop-rest l = length l.rest
