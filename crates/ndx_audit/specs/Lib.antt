-- The audit's own values and laws of its loops.

-- Steps: the walk's values, as the test has them, and what the audit's functions ask
pub mod State
-- Steps: the walk of a leaf and of a branch, entry after entry by number
pub mod Steps
-- Laws: those steps are the walk
pub mod StepLaws
-- Laws: a page that is entered, and the walk from there
pub mod PageLaws
-- Laws: the loops
pub mod LoopLaws
