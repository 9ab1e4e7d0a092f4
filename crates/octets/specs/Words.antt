-- Steps: bytes as one number, and the order of strings by it. Only laws and the contracts of the functions that `compare` calls cite these definitions.
-- A reader need not believe them: the contract of `compare` cites `Order.ordering` alone.
use Rattle.std.specs.Prelude.{ℕ, zero, suc, ◌+◌, ◌*◌, ◌≡◌, List, cond, ltb, drop}
use Rattle.octets.specs.Bytes.{byte_at, le32}
use Rattle.octets.specs.Order.{ordering}
use Rattle.std.specs.declared.cmp.Ordering.{Ordering}
use Rattle.std.specs.declared.cmp.Ordering.TheVariants.{Less, Greater}

-- the eight bytes at an offset, least significant first
unfoldable pub le64 : List ℕ → ℕ → ℕ
le64 s at = le32 s at + 4294967296 * le32 s (at + 4)

-- the n bytes at an offset "as one number with the first byte highest" (document 02, K2)
unfoldable pub bytes_number : List ℕ → ℕ → ℕ → ℕ
bytes_number s at zero = 0
bytes_number s at (suc n) = 256 * bytes_number s at n + byte_at s (at + n)

-- the order of two numbers, or the order rest if they are equal
unfoldable pub order_then : ℕ → ℕ → Ordering → Ordering
order_then x y rest = cond (ltb x y) Less (cond (ltb y x) Greater rest)

-- the n bytes of a and b from offset i on decide as the numbers x and y do: what stands behind them counts only if x and y are equal
abbrev pub Decides : List ℕ → List ℕ → ℕ → ℕ → ℕ → ℕ → Type 0
Decides a b i n x y = ordering (drop i a) (drop i b) ≡ order_then x y (ordering (drop (i + n) a) (drop (i + n) b))
