-- Laws: the entries that are read of a page: their number, their places, and the bytes that they depend on
pub mod ReadingLaws
-- Laws: the search in a page is the theory's search in the list of its entries
pub mod SearchLaws
