-- `idx_lookup::descend_from` calls itself with one level less.
use Rattle.idx_lookup.proofs.+descend_from.Given as goal

abbrev pub decreases-descend_from : goal.decreases-descend_from
decreases-descend_from g l = l.levels
