-- What is asked of a file and its pages, and the laws of its entries, keys and links.

-- Steps: what is asked of the buffer
pub mod Places
-- Laws: entries by number, the last key and pair
pub mod EntryLaws
-- Laws: a good header, and the right links
pub mod FileLaws
