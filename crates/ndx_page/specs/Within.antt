-- Steps: what the functions on a page's entries ask of the buffer. Only inner contracts cite it: a reader need not believe it.
use Rattle.std.specs.Prelude.{ℕ, ◌+◌, ◌*◌, ◌≤◌, List, length}
use Rattle.ndx_page.specs.Header.{page_size, key_length, entry_size, entry_area}
use Rattle.ndx_page.specs.Page.{page_start, key_place}

-- the header and page p lie within the buffer, and n entries within the page; a key lies within its entry
pub record Within (b : List ℕ) (p n : ℕ) : Type 0 where
  pub long : page_size ≤ length b
  pub page : page_start p + page_size ≤ length b
  pub entries : n * entry_size b ≤ entry_area
  pub key : key_length b + key_place ≤ entry_size b
