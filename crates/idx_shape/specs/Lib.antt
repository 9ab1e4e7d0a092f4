-- The first pass's values and the laws of its loops. What the audit answers is said in idx_sound/Sound.

-- Steps: the values, as the test has them
pub mod State
-- Laws: the tests of one page
pub mod StepLaws
-- Laws: the loops over children, pages and levels, and the answer
pub mod PassLaws
