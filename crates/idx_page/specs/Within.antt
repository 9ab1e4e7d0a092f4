-- Steps: what the functions on a page's entries ask of the buffer. Only inner contracts cite it: a reader need not believe it.
use Rattle.std.specs.Prelude.{ℕ, ◌+◌, ◌≤◌, List, length}
use Rattle.idx_page.specs.Header.{max_key, page_size}
use Rattle.idx_page.specs.Page.{capacity}

-- the page at p lies within the buffer, and n entries with keys of k bytes lie within the page
pub record Within (b : List ℕ) (k p n : ℕ) : Type 0 where
  pub key : k ≤ max_key
  pub count : n ≤ capacity k
  pub page : p + page_size ≤ length b
