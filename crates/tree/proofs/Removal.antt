-- Laws: the pages of each level after a removal
pub mod Levels
-- Laws: all levels are linked again after a removal
pub mod Links
-- Laws: a page on a level after a removal was on that level before it
pub mod OnLevel
-- Laws: a removal keeps the order
pub mod Ordered
-- Laws: the pages after a removal and the emptied ones are the old ones
pub mod Pages
-- Laws: the leaf pairs after a removal
pub mod Pairs
-- Laws: a removal keeps counts within capacity
pub mod Sized
