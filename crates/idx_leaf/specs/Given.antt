-- Steps: what the functions ask of a page of the buffer b with keys of k bytes. Inner contracts, laws and proofs cite it: a reader need not believe it.
use Rattle.std.specs.Prelude.{ℕ, ◌≤◌, ◌≡◌, true, List, length}
use Rattle.idx_page.specs.Header.{max_key, is_page}
use Rattle.idx_leaf.specs.Leaf.{items_in}

-- the page at p of the buffer has n entries
pub record Listed (b : List ℕ) (k p n : ℕ) : Type 0 where
  pub key : k ≤ max_key
  pub page : is_page (length b) p ≡ true
  pub count : n ≡ length (items_in k b p)
