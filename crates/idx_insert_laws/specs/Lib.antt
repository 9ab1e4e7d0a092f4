-- Insertion and fresh on bytes: laws, in the order in which they rest on one another.

-- Laws: a change of a list of stored entries is the same change of the list with their numbers
pub mod ItemLists
-- Laws: the pages taken from a free list and from the file's end
pub mod TakenPages
-- Laws: new pages by their names
pub mod Naming
-- Laws: the entries of all pages after insertion's steps
pub mod InsertionEntries
-- Laws: the heads of all pages, and the file's header, after insertion's steps
pub mod InsertionHeads
-- Laws: the whole buffer after an insertion
pub mod InsertionBuffer
-- Laws: the bits of the attributes after an insertion
pub mod AttributeLaws
-- Laws: a sound index read up to the buffer's length is the one read up to the file's
pub mod SoundReading
-- Laws: a page that stays free keeps its form
pub mod FreePages
-- Laws: the path of a key, and by it refusals 29 and 30 on bytes, are the theory's
pub mod RoomLaws
-- Laws: a fresh index is sound and empty
pub mod FreshLaws
