-- The levels left fall with each call.
use Rattle.idx_path.proofs.+there_from.Given as goal

abbrev pub decreases-there_from : goal.decreases-there_from
decreases-there_from l = l.levels
