-- Laws: the pages of each level after an insertion
pub mod Levels
-- Laws: all levels are linked again after an insertion
pub mod Links
-- Laws: an insertion takes as many new pages and levels as the rule for refusal 30 says
pub mod Needs
-- Laws: an insertion keeps the order
pub mod Ordered
-- Laws: the pages after an insertion are the old ones and the new ones
pub mod Pages
-- Laws: the leaf pairs after an insertion
pub mod Pairs
-- Laws: an insertion keeps counts within capacity
pub mod Sized
