-- Laws: the test accepts exactly the sound indexes
pub mod Accepted
-- Laws: every buffer has one answer that meets `Audited`
pub mod AnswerLaws
-- Laws: the audit's test of the keys over a page's children, against K1's clause
pub mod CeilingLaws
-- Laws: no page is met twice, and each page once exactly if as many are met as there are
pub mod DistinctLaws
-- Laws: the audit's tests of leaf entries, against ascending keys
pub mod EntryLaws
-- Laws: a sound index is what the theory of calls keeps, and back
pub mod IndexLaws
-- Laws: the audit's pass over the keys above pages, against K1's clause
pub mod KeyLaws
-- Laws: the audit's passes from level to level
pub mod LevelLaws
-- Laws: the audit's pass over the pages of one level
pub mod RunLaws
-- Laws: good levels, against document 01's clauses on the tree, but for keys above pages
pub mod ShapeLaws
