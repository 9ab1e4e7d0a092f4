-- Laws: it is that in the tree, if the leaves are linked
pub mod FirstLaws
-- Laws: insertion into a store is insertion into its tree
pub mod InsertionLaws
-- Laws: the tree that a store is read as depends on the pages reached alone
pub mod Laws
-- Laws: the leaf pairs are the entries of the leaves, left to right
pub mod Leaves
-- Laws: lookup, visited pages and the run on a store are those on its tree
pub mod LookupLaws
-- Laws: removal from a store is removal from its tree
pub mod RemovalLaws
-- Laws: it is that in the tree
pub mod RouteLaws
