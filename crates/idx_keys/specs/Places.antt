-- Steps: what the inner functions of the audit and the match ask of the buffer, and the key and the pair that begin at a place. No public contract cites these:
-- a reader need not believe them.
use Rattle.std.specs.Prelude.{ℕ, ◌+◌, ◌≤◌, ◌<◌, List, length, Some, None}
use Rattle.std.specs.declared.option.Option.{Option as Place}
use Rattle.std.proofs.Math.Option.{Option, none, some}
use Rattle.octets.specs.Bytes.{be32}
use Rattle.octets.specs.Store.{window}
use Rattle.idx_page.specs.Header.{max_bytes, max_key, page_size}
use Rattle.idx_page.specs.Within.{Within}

-- a file of `size` bytes within the buffer, with keys of k bytes
pub record InFile (b : List ℕ) (k size : ℕ) : Type 0 where
  pub key : k ≤ max_key
  pub long : page_size ≤ length b
  pub within : size ≤ length b
  pub most : size ≤ max_bytes

-- each of the first n entries of the page at p lies within the page, and the page within the buffer
pub record EntriesWithin (b : List ℕ) (k p n : ℕ) : Type 0 where
  pub each : (i : ℕ) → i < n → Within b k p (i + 1)

-- an entry, which begins at z
abbrev pub pair_at : List ℕ → ℕ → ℕ → List ℕ × ℕ
pair_at b k z = (window b z k, be32 b (z + k))

-- the key that begins at a place, if there is one
abbrev pub key_from : List ℕ → ℕ → Place ℕ → Option (List ℕ)
key_from b k None = none
key_from b k (Some z) = some (window b z k)

-- the pair of the entry that begins at a place, if there is one
abbrev pub pair_from : List ℕ → ℕ → Place ℕ → Option (List ℕ × ℕ)
pair_from b k None = none
pair_from b k (Some z) = some (pair_at b k z)

-- an entry begins at a place, if there is one
abbrev pub PlaceInside : List ℕ → ℕ → Place ℕ → Type 0
PlaceInside b k None = Unit {0}
PlaceInside b k (Some z) = z + (k + 4) ≤ length b
