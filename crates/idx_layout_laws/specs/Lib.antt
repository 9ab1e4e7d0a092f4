-- The stores that write a page or the header: laws.

-- Laws: the entries of every page after each store
pub mod EntryLaws
-- Laws: the head of every page, and the file's header, after each store
pub mod HeadLaws
-- Laws: the bytes of all other pages after each store
pub mod OtherPages
-- Laws: a supply that is stored in the header
pub mod SupplyLaws
-- Laws: every page and the header after a page is unlinked from its neighbours, and after it joins the free list
pub mod FreeLaws
