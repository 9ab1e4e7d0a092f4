-- Removal of a pair, page by page, in the order in which the parts rest on one another.

-- Rules: removal, page by page
pub mod Removal
-- Steps: what the inner functions answer
pub mod Answers
-- Laws: the cases of removal's steps
pub mod StepLaws
