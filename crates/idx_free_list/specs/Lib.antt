-- The laws of the free list.

-- Laws: one free page, and the loop along the list
pub mod FreeLaws
