-- The loop of `lists::print_answers` ends: the rest of the text gets shorter with each line.
use Rattle.std.proofs.Common.{length}
use Rattle.test_indexes.proofs.lists.print_answers.Given as goal

abbrev pub decreases-loop-replies : goal.decreases-loop-replies
decreases-loop-replies g l = length l.rest
