-- A page's entries after a change, in the order in which the parts rest on one another.

-- Rules: a page's entries after a pair goes in, a page below was split or an entry goes
pub mod Entries
