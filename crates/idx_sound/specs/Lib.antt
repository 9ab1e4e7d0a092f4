-- What a sound index is, and the test that accepts exactly the sound indexes. Rules are what a reader must believe; steps are what only inner contracts, laws
-- and the computing part of insertion's rule cite; laws are proved.

-- Rules: what a sound index is, and what the audit answers
pub mod Sound
-- Steps: the audit's test, page by page and level by level
pub mod AuditTest
-- Laws: the attributes and counts of the pages of a level, against document 01's words
pub mod AttributeLaws
-- Laws: the audit's walk along the free list
pub mod FreeLaws
-- Laws: whether an index is sound depends on its first F bytes alone
pub mod PrefixLaws
