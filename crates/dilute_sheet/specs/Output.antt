-- Rules: a text that is written into a lent buffer from an offset on, as far as there is room. The contract of `sheet` says by it what the
-- buffer holds and what the call answers.
use Rattle.std.specs.Prelude.{ℕ, ◌+◌, ◌≤◌, min, ◌≡◌, List, length, take}
use Rattle.octets.specs.Store.{put}

-- a buffer after a write, and where the text ends in it
pub record Output : Type 0 where
  pub after : List ℕ
  pub end : ℕ

abbrev pub output : List ℕ → ℕ → Output
output after end = record { after = after; end = end }

-- what would fall past the buffer's end is lost
unfoldable pub wrote : List ℕ → ℕ → List ℕ → Output
wrote b at text = output (put b at text) (min (at + length text) (length b))

-- n counts bytes at the front of b; the second part follows from the first, and both are what a caller needs to lend the part
abbrev pub Counts : ℕ → List ℕ → Type 0
Counts n b = (n ≤ length b) × (n ≡ length (take n b))
