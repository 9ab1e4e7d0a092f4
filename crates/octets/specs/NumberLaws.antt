-- Laws: a number is read back as it was stored, and what is stored elsewhere does not touch it. Assumes nothing.
use Rattle.std.specs.Prelude.{◌≡◌, refl, List, [], ◌∷◌, ◌++◌, ℕ, zero, suc, ◌+◌, ◌*◌, ◌/◌, ◌%◌, ◌^◌, ◌≤◌, ◌<◌, length}
use Rattle.std.proofs.Common.{sym, ap, ◌∙◌, add-zero, arith, lit<}
use Rattle.basis.specs.Lists.{All}
use Rattle.octets.specs.Bytes.{byte_at, le16, le32, be32, to_le16, to_le32, to_be32}
use Rattle.octets.specs.Store.{put, window}
use Rattle.octets.specs.StoreLaws.{get_d_window, window_same}

pub length-to_le16 : (x : ℕ) → length (to_le16 x) ≡ 2
unfolding to_le16
length-to_le16 x = refl

pub length-to_le32 : (x : ℕ) → length (to_le32 x) ≡ 4
unfolding to_le32
length-to_le32 x = refl

pub length-to_be32 : (x : ℕ) → length (to_be32 x) ≡ 4
unfolding to_be32
length-to_be32 x = refl

-- the four bytes of a number are twice two
pub to_le32-halves : (x : ℕ) → to_le32 x ≡ to_le16 x ++ to_le16 (x / 256 / 256)
unfolding to_le32 to_le16
to_le32-halves x = refl

-- the bytes of a number read as the number
le16-to_le16 : (x : ℕ) → x < 2 ^ 16 → le16 (to_le16 x) 0 ≡ x
unfolding le16 to_le16
le16-to_le16 x h = omega arith

pub le32-to_le32 : (x : ℕ) → x < 2 ^ 32 → le32 (to_le32 x) 0 ≡ x
unfolding le32 to_le32
le32-to_le32 x h = omega arith

pub be32-to_be32 : (x : ℕ) → x < 2 ^ 32 → be32 (to_be32 x) 0 ≡ x
unfolding be32 to_be32
be32-to_be32 x h = omega arith

low_byte : (x r : ℕ) → x < 256 → (x + 256 * r) % 256 ≡ x
low_byte x r h = omega arith

high-bytes : (x r : ℕ) → x < 256 → (x + 256 * r) / 256 ≡ r
high-bytes x r h = omega arith

nested : (x y z w : ℕ) → x + 256 * y + 65536 * z + 16777216 * w ≡ x + 256 * (y + 256 * (z + 256 * w))
nested x y z w = omega arith

-- four bytes read least significant first and turned round read as most significant first
pub le32_turned : (s : List ℕ) (at : ℕ) → ((j : ℕ) → byte_at s j < 256) → be32 (to_le32 (le32 s at)) 0 ≡ be32 s at
unfolding be32 le32 to_le32
le32_turned s at small =
    rw (
      nested (byte_at s at) (byte_at s (at + 1)) (byte_at s (at + 2)) (byte_at s (at + 3)),
      low_byte _ _ (small at),
      high-bytes _ _ (small at),
      low_byte _ _ (small (at + 1)),
      high-bytes _ _ (small (at + 1)),
      low_byte _ _ (small (at + 2)),
      high-bytes _ _ (small (at + 2)),
    )
    (omega (arith, small (at + 3)))

-- a number depends on its own bytes alone
module _ (b : List ℕ) (at : ℕ) where
  pub le16-window : le16 (window b at 2) 0 ≡ le16 b at
  unfolding le16
  le16-window = rw (get_d_window b at 2 0 0 (lit< tt), get_d_window b at 2 1 0 (lit< tt), add-zero)

  byte-window : (i : ℕ) → i < 4 → byte_at (window b at 4) i ≡ byte_at b (at + i)
  byte-window i h = get_d_window b at 4 i 0 h

  pub le32-window : le32 (window b at 4) 0 ≡ le32 b at
  unfolding le32
  le32-window = rw (byte-window 0 (lit< tt), byte-window 1 (lit< tt), byte-window 2 (lit< tt), byte-window 3 (lit< tt), add-zero)

  pub be32-window : be32 (window b at 4) 0 ≡ be32 b at
  unfolding be32
  be32-window = rw (byte-window 0 (lit< tt), byte-window 1 (lit< tt), byte-window 2 (lit< tt), byte-window 3 (lit< tt), add-zero)

-- a number is read back from the offset that it was stored at
pub le16-put : (b : List ℕ) (at x : ℕ) → x < 2 ^ 16 → at + 2 ≤ length b → le16 (put b at (to_le16 x)) at ≡ x
le16-put b at x h l = sym (le16-window (put b at (to_le16 x)) at) ∙ ap (λ s. le16 s 0) (window_same b at (to_le16 x) 2 (length-to_le16 x) l) ∙ le16-to_le16 x h

pub le32-put : (b : List ℕ) (at x : ℕ) → x < 2 ^ 32 → at + 4 ≤ length b → le32 (put b at (to_le32 x)) at ≡ x
le32-put b at x h l = sym (le32-window (put b at (to_le32 x)) at) ∙ ap (λ s. le32 s 0) (window_same b at (to_le32 x) 4 (length-to_le32 x) l) ∙ le32-to_le32 x h

-- two buffers that agree in a number's bytes have the same number there
pub le16-same : (a b : List ℕ) (at : ℕ) → window a at 2 ≡ window b at 2 → le16 a at ≡ le16 b at
le16-same a b at e = sym (le16-window a at) ∙ ap (λ s. le16 s 0) e ∙ le16-window b at

pub le32-same : (a b : List ℕ) (at : ℕ) → window a at 4 ≡ window b at 4 → le32 a at ≡ le32 b at
le32-same a b at e = sym (le32-window a at) ∙ ap (λ s. le32 s 0) e ∙ le32-window b at

-- a number of four bytes is below 2 ^ 32
module _ (s : List ℕ) (small : (j : ℕ) → byte_at s j < 256) (at : ℕ) where
  pub le32-below : le32 s at < 2 ^ 32
  unfolding le32
  le32-below = omega (arith, small at, small (at + 1), small (at + 2), small (at + 3))

  pub be32-below : be32 s at < 2 ^ 32
  unfolding be32
  be32-below = omega (arith, small at, small (at + 1), small (at + 2), small (at + 3))

-- the same for a list whose members are bytes
byte_small : (s : List ℕ) → All (λ x. x < 256) s → (i : ℕ) → byte_at s i < 256
byte_small [] a zero = omega arith
byte_small [] a (suc i) = omega arith
byte_small (x ∷ s) a zero = a.0
byte_small (x ∷ s) a (suc i) = byte_small s a.1 i

module _ (s : List ℕ) (a : All (λ x. x < 256) s) (at : ℕ) where
  pub le16-small : le16 s at < 2 ^ 16
  unfolding le16
  le16-small = omega (arith, byte_small s a at, byte_small s a (at + 1))

  pub le32-small : le32 s at < 2 ^ 32
  le32-small = le32-below s (byte_small s a) at
