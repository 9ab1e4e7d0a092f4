-- Rules: a store of bytes into a buffer, and a part of a buffer. The rules of insertion and fresh say by `put` what the buffer holds after the call.
use Rattle.std.specs.Prelude.{ℕ, zero, suc, List, [], ◌∷◌, take, drop}

-- xs with ys stored from offset at on; the length stays, and what would fall past the end is lost
unfoldable pub put : List ℕ → ℕ → List ℕ → List ℕ
put [] at ys = []
put (x ∷ xs) zero [] = x ∷ xs
put (x ∷ xs) zero (y ∷ ys) = y ∷ put xs zero ys
put (x ∷ xs) (suc at) ys = x ∷ put xs at ys

-- the n bytes from offset at on
unfoldable pub window : List ℕ → ℕ → ℕ → List ℕ
window xs at n = take n (drop at xs)
