-- The match of an index against a field of a table, in the order in which its parts rest on one another. Rules are what a reader must believe; steps are how
-- the code computes; laws are proved.

-- Rules: the refusals before the audit, entries that match a field, the answer
pub mod Match
-- Steps: the test of the entries, as it is computed
pub mod MatchTest
-- Rules: the answer as one number that computes
pub mod Computed
-- Laws: n numbers from 1 to n, none twice, are all of them
pub mod CountLaws
-- Laws: the code's loops, by what is left to do
pub mod StepLaws
-- Laws: the entries that are read along the leaves are the tree's
pub mod LeafLaws
