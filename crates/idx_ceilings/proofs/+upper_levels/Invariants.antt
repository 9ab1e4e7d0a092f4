-- The recursion of `idx_ceilings::upper_levels` ends: the levels under the level fall with each call.
use Rattle.idx_ceilings.proofs.+upper_levels.Given as goal

abbrev pub decreases-upper_levels : goal.decreases-upper_levels
decreases-upper_levels l = l.height
