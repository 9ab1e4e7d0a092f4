-- What a sound NDX index is, and the test that accepts exactly the sound indexes. Rules are what a reader must believe; steps are what only inner contracts and
-- laws cite; laws are proved.

-- Rules: the bytes read as pages and as a tree
pub mod Reading
-- Rules: what a sound NDX index is, and what the audit answers
pub mod Sound
-- Steps: the audit's walk through a tree of pages
pub mod Walk
-- Steps: the audit's test
pub mod AuditTest
-- Laws: the entries of a page, and the search in it
pub mod ReadingLaws
-- Laws: the pages and pairs of a sound index, and the order of its tree
pub mod TreeLaws
-- Laws: how many pages are entered
pub mod CountLaws
