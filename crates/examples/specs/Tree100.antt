-- Rules: the indexes that document 01's examples make with fresh and insertion, "k = 100, five ascending keys". Assumes nothing.
use Rattle.std.specs.Prelude.{ℕ, zero, suc, ◌+◌, List, [], ◌∷◌, ◌++◌, replicate}
use Rattle.idx_insert.specs.Calls.{insert_rule}
use Rattle.idx_insert.specs.Fresh.{fresh_rule}

-- the key of 100 bytes that ends in the digit x: 99 blanks before it
unfoldable pub key100 : ℕ → List ℕ
key100 x = replicate 99 32 ++ ((48 + x) ∷ [])

-- a buffer of `size` bytes after fresh, with the expression `NAME`, and insertions of the keys 1 to n, key x with the record number x
unfoldable pub grown : ℕ → ℕ → List ℕ
grown size zero = (fresh_rule (replicate size 7) 100 1 (78 ∷ 65 ∷ 77 ∷ 69 ∷ [])).after
grown size (suc n) = (insert_rule (grown size n) (key100 (suc n)) (suc n)).after
