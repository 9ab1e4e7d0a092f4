-- The buffer after a removal, read page by page: laws.

-- Laws: the route to a key, and an entry of a list by its number, on stored entries and in the theory
pub mod EntryLists
-- Laws: the entries of all pages after removal's steps
pub mod RemovalEntries
-- Laws: what removal's two steps keep, by one induction
pub mod RemovalInduction
-- Laws: attributes, links and counts of all pages, and the header, after removal's steps
pub mod RemovalHeads
-- Laws: the bytes of free pages, of pages outside the tree, and the free list after removal's steps
pub mod RemovalFree
-- Laws: the whole buffer after a removal
pub mod RemovalBuffer
-- Laws: a sound index before a removal
pub mod SoundRemoval
-- Laws: a removal keeps an index sound
pub mod RemovalSound
-- Laws: whether the pair is there
pub mod ThereLaws
