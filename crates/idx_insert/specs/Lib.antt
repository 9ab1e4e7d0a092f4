-- A fresh index and insertion, in the order in which the parts rest on one another.

-- Rules: what insertion answers and leaves
pub mod Calls
-- Rules: what fresh answers and leaves
pub mod Fresh
-- Laws: the cases of insertion and of fresh
pub mod CallLaws
