-- The audit's test of leaf entries, and its laws.

-- Steps: one entry
pub mod Leaf
-- Laws: the bytes that are compared
pub mod ComparedLaws
-- Laws: one entry, and the loop over entries
pub mod LeafLaws
