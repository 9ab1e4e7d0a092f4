-- Removal, in the order in which the parts rest on one another.

-- Rules: what removal answers and leaves
pub mod Calls
-- Laws: the cases of removal
pub mod CallLaws
