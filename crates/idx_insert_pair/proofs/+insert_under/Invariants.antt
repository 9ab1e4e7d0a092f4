-- The levels that are left fall.
use Rattle.idx_insert_pair.proofs.+insert_under.Given as goal

abbrev pub decreases-insert_under : goal.decreases-insert_under
decreases-insert_under l = l.levels
