-- Laws: what std says of the bytes of a number, and of a write to a part of a slice, is what the rules say. Cited by the loads and stores.
use Rattle.std.specs.Prelude.{◌≡◌, refl, List, ℕ, ◌+◌, ◌≤◌, ◌<◌, length, take, eqb, ltb}
use Rattle.std.specs.Ordering.{nat_cmp}
use Rattle.std.specs.declared.cmp.Ordering.TheVariants.{Equal}
use Rattle.std.specs.Int.{w16, w32, w64, from_le_bytes, from_be_bytes, to_le_bytes, to_be_bytes}
use Rattle.std.proofs.Common.{arith, lit<, get_or, add-zero, append_assoc, drop-drop, ltb-false, eqb-true, le-ltb, lt-ltb}
use Rattle.std.proofs.Math.Nat.{div-div-eq-div-mul}
use Rattle.std.proofs.lemmas.Bool.{eqb-false}
use Rattle.basis.specs.Tests.{either}
use borrow.Rule.Slice.PartMut.{put_mid}
use Rattle.octets.specs.Bytes.{byte_at, le16, le32, be16, be32, to_le16, to_le32, to_be32}
use Rattle.octets.specs.Store.{put, window}
use Rattle.octets.specs.StoreLaws.{put_splice, get_d_window}
use Rattle.octets.specs.Words.{bytes_number, order_then}

-- ---- a number read from its bytes

module _ (s : List ℕ) (at n : ℕ) where
  -- the first byte of a part, and another
  head : 0 < n → get_or (window s at n) 0 0 ≡ byte_at s at
  head h = rw add-zero at (get_d_window s at n 0 0 h)

  nth : (i : ℕ) → i < n → get_or (window s at n) i 0 ≡ byte_at s (at + i)
  nth i h = get_d_window s at n i 0 h

module _ (s : List ℕ) (at : ℕ) where
  pub from_le_2 : from_le_bytes w16 (window s at 2) ≡ le16 s at
  unfolding le16
  from_le_2 = omega (arith, head s at 2 (lit< tt), nth s at 2 1 (lit< tt))

  pub from_be_2 : from_be_bytes w16 (window s at 2) ≡ be16 s at
  unfolding be16
  from_be_2 = omega (arith, head s at 2 (lit< tt), nth s at 2 1 (lit< tt))

  pub from_le_4 : from_le_bytes w32 (window s at 4) ≡ le32 s at
  unfolding le32
  from_le_4 = omega (arith, head s at 4 (lit< tt), nth s at 4 1 (lit< tt), nth s at 4 2 (lit< tt), nth s at 4 3 (lit< tt))

  pub from_be_4 : from_be_bytes w32 (window s at 4) ≡ be32 s at
  unfolding be32
  from_be_4 = omega (arith, head s at 4 (lit< tt), nth s at 4 1 (lit< tt), nth s at 4 2 (lit< tt), nth s at 4 3 (lit< tt))

  -- the bytes of a part of eight
  record Eight : Type 0 where
    b0 : get_or (window s at 8) 0 0 ≡ byte_at s at
    b1 : get_or (window s at 8) 1 0 ≡ byte_at s (at + 1)
    b2 : get_or (window s at 8) 2 0 ≡ byte_at s (at + 2)
    b3 : get_or (window s at 8) 3 0 ≡ byte_at s (at + 3)
    b4 : get_or (window s at 8) 4 0 ≡ byte_at s (at + 4)
    b5 : get_or (window s at 8) 5 0 ≡ byte_at s (at + 5)
    b6 : get_or (window s at 8) 6 0 ≡ byte_at s (at + 6)
    b7 : get_or (window s at 8) 7 0 ≡ byte_at s (at + 7)

  eight : Eight
  eight = record {
    b0 = head s at 8 (lit< tt);
    b1 = nth s at 8 1 (lit< tt);
    b2 = nth s at 8 2 (lit< tt);
    b3 = nth s at 8 3 (lit< tt);
    b4 = nth s at 8 4 (lit< tt);
    b5 = nth s at 8 5 (lit< tt);
    b6 = nth s at 8 6 (lit< tt);
    b7 = nth s at 8 7 (lit< tt);
  }

  pub from_be_8 : from_be_bytes w64 (window s at 8) ≡ bytes_number s at 8
  unfolding bytes_number
  from_be_8 = rw add-zero (let e = eight in omega arith)

-- ---- the bytes of a number

pub to_le_2 : (x : ℕ) → take 2 (to_le_bytes w32 x) ≡ to_le16 x
unfolding to_le16
to_le_2 x = refl

pub to_le_4 : (x : ℕ) → to_le_bytes w32 x ≡ to_le32 x
unfolding to_le32
to_le_4 x = simp div-div-eq-div-mul

pub to_be_4 : (x : ℕ) → to_be_bytes w32 x ≡ to_be32 x
unfolding to_be32
to_be_4 x = simp div-div-eq-div-mul

-- ---- a write to a part

pub part_put : (xs : List ℕ) (at n : ℕ) (ys : List ℕ) → at + n ≤ length xs → length ys ≡ n → put_mid at n xs ys ≡ put xs at ys
part_put xs at n ys h l = let f : at + length ys ≤ length xs = omega arith in rw (put_splice xs at ys f, l, drop-drop, append_assoc)

-- ---- the order of two numbers

pub cmp_then : (x y : ℕ) → nat_cmp x y ≡ order_then x y Equal
unfolding order_then
cmp_then x y = either (ltb x y)
    (λ l. rw l)
    (λ l. let le = ltb-false x y l in either (eqb x y)
    (λ e. rw (l, e, le-ltb y x (omega (arith, eqb-true x y e))))
    (λ e. let ne = eqb-false x y e in rw (l, e, lt-ltb y x (omega arith))))
