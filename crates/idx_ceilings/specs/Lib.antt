-- The second pass's values and the laws of its loops.

-- Steps: the values, as the test has them
pub mod State
-- Laws: the keys over a page's children, and the loop over them
pub mod CeilingLaws
-- Laws: the loops over pages and levels, and the answer
pub mod KeyLaws
