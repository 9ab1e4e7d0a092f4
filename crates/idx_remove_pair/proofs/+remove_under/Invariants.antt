-- The levels that are left fall.
use Rattle.idx_remove_pair.proofs.+remove_under.Given as goal

abbrev pub decreases-remove_under : goal.decreases-remove_under
decreases-remove_under l = l.levels
