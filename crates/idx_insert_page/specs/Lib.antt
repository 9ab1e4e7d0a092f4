-- Insertion of a pair, page by page, in the order in which the parts rest on one another.

-- Rules: insertion, page by page
pub mod Insertion
-- Steps: what the inner functions answer, and that a page more can be taken after a split
pub mod Answers
-- Laws: the cases of insertion's steps
pub mod StepLaws
