-- Steps: the supply of new pages of an index: which page is taken, and the free list and the file size after it. Cited by the rule for refusal 30 on trees and
-- by insertion into an index.
use Rattle.std.specs.Prelude.{List, ℕ, ◌+◌, ◌*◌}
use Rattle.tree.specs.Constants.{page_size}
use Rattle.tree.specs.FreeList.{free_first, lacking}

-- the page at the end of a file of `size` bytes that is taken after j others: "a new page at F, which grows by 512"
abbrev pub page_at_end : ℕ → ℕ → ℕ
page_at_end size j = size + page_size * j

-- the page that is taken after j others: "free pages from the head before it grows F"
abbrev pub taken_page : List ℕ → ℕ → ℕ → ℕ
taken_page free size = free_first free (page_at_end size)

-- the file size after n pages were taken: F grows by the pages that the free list lacks
abbrev pub size_after : List ℕ → ℕ → ℕ → ℕ
size_after free size n = size + page_size * lacking n free
