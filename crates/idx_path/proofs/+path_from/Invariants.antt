-- The levels left fall with each call.
use Rattle.idx_path.proofs.+path_from.Given as goal

abbrev pub decreases-path_from : goal.decreases-path_from
decreases-path_from l = l.levels
