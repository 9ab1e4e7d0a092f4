-- A pair among the entries of a leaf, in the order in which the parts rest on one another.

-- Rules: a page's entries, and the entry of a leaf that a pair leads to
pub mod Leaf
-- Steps: what the functions ask of a page
pub mod Given
-- Laws: entries as they are read from bytes
pub mod ItemLaws
-- Laws: a page's entries by number
pub mod EntryLaws
-- Laws: where a search in a page ends
pub mod SearchLaws
-- Laws: for features 0, the comparison of an entry with a pair
pub mod PairLaws
