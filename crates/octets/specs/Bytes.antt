-- Rules: numbers in bytes. Every other crate reads and writes the files' numbers by these definitions alone.
use Rattle.std.specs.Prelude.{ℕ, ◌+◌, ◌*◌, ◌/◌, ◌%◌, List, [], ◌∷◌, get_or}

-- the byte at an offset, 0 past the end
abbrev pub byte_at : List ℕ → ℕ → ℕ
byte_at s at = get_or s at 0

-- "least significant byte first": the two and the four bytes at an offset
unfoldable pub le16 : List ℕ → ℕ → ℕ
le16 s at = byte_at s at + 256 * byte_at s (at + 1)

unfoldable pub le32 : List ℕ → ℕ → ℕ
le32 s at = byte_at s at + 256 * byte_at s (at + 1) + 65536 * byte_at s (at + 2) + 16777216 * byte_at s (at + 3)

-- "most significant first": the two and the four bytes at an offset
unfoldable pub be16 : List ℕ → ℕ → ℕ
be16 s at = 256 * byte_at s at + byte_at s (at + 1)

unfoldable pub be32 : List ℕ → ℕ → ℕ
be32 s at = 16777216 * byte_at s at + 65536 * byte_at s (at + 1) + 256 * byte_at s (at + 2) + byte_at s (at + 3)

-- the two and the four bytes of a number, least significant first
unfoldable pub to_le16 : ℕ → List ℕ
to_le16 x = x % 256 ∷ x / 256 % 256 ∷ []

unfoldable pub to_le32 : ℕ → List ℕ
to_le32 x = x % 256 ∷ x / 256 % 256 ∷ x / 256 / 256 % 256 ∷ x / 256 / 256 / 256 % 256 ∷ []

-- the four bytes of a number, most significant first
unfoldable pub to_be32 : ℕ → List ℕ
to_be32 x = x / 256 / 256 / 256 % 256 ∷ x / 256 / 256 % 256 ∷ x / 256 % 256 ∷ x % 256 ∷ []
