-- A page that leaves the tree.

-- Laws: the stores that unlink a page and free it are the rule's
pub mod FreeLaws
