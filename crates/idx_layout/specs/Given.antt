-- Steps: what the functions ask of the buffer b for n entries, with keys of k bytes, on the page at p. Inner contracts, laws and proofs cite it: a reader need
-- not believe it.
use Rattle.std.specs.Prelude.{ℕ, ◌+◌, ◌≤◌, ◌≡◌, true, List, length}
use Rattle.idx_page.specs.Header.{max_key, is_page}
use Rattle.idx_page.specs.Page.{capacity, entry_area}

-- the page has room for the n entries, or for all but one
pub record Over (b : List ℕ) (k p n : ℕ) : Type 0 where
  pub key : k ≤ max_key
  pub page : is_page (length b) p ≡ true
  pub count : n ≤ capacity k + 1

-- the room in which entries are gathered: the entry area and one entry more
abbrev pub room_size : ℕ
room_size = entry_area + max_key + 4
