-- An index file's header and pages. Rules are what a reader must believe; steps are what only inner contracts and laws cite; laws are proved.

-- Rules: the limits of an index file, its header, and when that is good
pub mod Header
-- Rules: a page: its numbers, its entries by number, the checks and the search of lookup
pub mod Page
-- Rules: keys are ordered as unsigned bytes
pub mod KeyOrder
-- Rules: the one reading of bytes as pages and as a tree
pub mod Reading
-- Rules: the order of stored entries, and the route of a new one, by a header's features
pub mod EntryOrder
-- Steps: what the functions on a page's entries ask of the buffer
pub mod Within
-- Steps: whether a page is a leaf, and the children of a page
pub mod Children
-- Laws: what a comparison of keys says of their order
pub mod KeyOrderLaws
-- Laws: for features 0 that order is the order of the entries' k + 4 bytes
pub mod EntryOrderLaws
-- Laws: what is done to stored entries by that order is done to the list with their numbers, which the theory has
pub mod ItemLaws
-- Laws: a good header and the offset of a page, taken apart and put together
pub mod HeaderLaws
-- Laws: good pages, where their entries lie, and the search in a page
pub mod PageLaws
