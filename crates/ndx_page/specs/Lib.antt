-- NDX indexes: the rules of header, pages and lookup, which a reader must believe, the steps that only inner contracts cite, and laws, which are proved.

-- Rules: an NDX file's limits and its header
pub mod Header
-- Rules: a page, its entries by number, and the checks of a page that lookup visits
pub mod Page
-- Rules: lookup's steps and its answer, on any bytes
pub mod Lookup
-- Steps: what the functions on a page's entries ask of the buffer
pub mod Within
-- Laws: what a good header and the number of a page say
pub mod HeaderLaws
-- Laws: what a good page says, and where its entries lie
pub mod PageLaws
-- Laws: a lookup with no level left
pub mod LookupLaws
-- Laws: what a good header gives the functions on pages, and the steps of lookup
pub mod IndexLaws
-- Laws: a found key is an equal one in a leaf, on any bytes
pub mod FoundLaws
