-- Laws: where a call stands in a list, and which call it is by its bytes. Cited by the proofs of the code. Assumes nothing.
use Prim.Native.Nat.{ℕ, zero, suc, ◌+◌, ◌-◌, ◌≤◌, ◌<◌}
use Rattle.std.specs.Prelude.{◌≡◌, refl, true, false, ◌&&◌, List, [], ◌∷◌, eqb, leb, length, take, drop}
use native.Mathlib.Omega.{arith}
use borrow.Author.Tests.{leb-true, le-leb, lt-leb, ne_eqb, eqb-true, eqb-false}
use Rattle.basis.specs.Lists.{All}
use Rattle.basis.specs.Tests.{either, both}
use Rattle.octets.specs.Bytes.{byte_at, le16, le32}
use Rattle.octets.specs.Store.{window}
use Rattle.octets.specs.NumberLaws.{le32-small}
use Rattle.tree.specs.Book.{insertion, removal_of, lookup_of}
use Rattle.idx_book.specs.Book.{FourBytes}
use Rattle.idx_batch.specs.Encoding.{key_in, key_end, call_end, is_call, call_at, calls_from, calls_in}

-- a whole call lies inside the list
pub record Whole (s : List ℕ) (at : ℕ) : Type 0 where
  pub head : at + 3 ≤ length s
  pub kind : byte_at s at ≤ 2
  pub end : call_end s at ≤ length s

pub whole : (s : List ℕ) (at : ℕ) → is_call s at ≡ true → Whole s at
unfolding is_call
whole s at e =
    let p = both (leb (at + 3) (length s)) _ e in
    let q = both (leb (byte_at s at) 2) _ p.1 in
    record { head = leb-true _ _ p.0; kind = leb-true _ _ q.0; end = leb-true _ _ q.1 }

module _ (s : List ℕ) (at : ℕ) where
  -- fewer than three bytes are no call; with three or more the other two tests decide
  pub no_head : length s < at + 3 → is_call s at ≡ false
  unfolding is_call
  no_head h = rw (lt-leb (at + 3) (length s) h)

  pub by_kind : {kind end : ℕ} → at + 3 ≤ length s → kind ≡ byte_at s at → end ≡ call_end s at
      → (leb kind 2 && leb end (length s)) ≡ is_call s at
  unfolding is_call
  by_kind h e f = rw (e, f, le-leb (at + 3) (length s) h)

  -- the call by its kind
  pub lookup-there : byte_at s at ≡ 0 → call_at s at ≡ lookup_of (key_in s at)
  unfolding call_at
  lookup-there e = rw (e)

  pub removal_there : byte_at s at ≡ 2 → call_at s at ≡ removal_of (key_in s at) (le32 s (key_end s at))
  unfolding call_at
  removal_there e = rw (e)

  pub insertion-there : (byte_at s at ≡ 0 → ⊥) → (byte_at s at ≡ 2 → ⊥) → call_at s at ≡ insertion (key_in s at) (le32 s (key_end s at))
  unfolding call_at
  insertion-there e f = rw (ne_eqb (byte_at s at) 0 e, ne_eqb (byte_at s at) 2 f)

  -- the key, as the code cuts it out of the list
  pub key-part : {n : ℕ} → n ≡ le16 s (at + 1) → take (at + 3 + n - (at + 3)) (drop (at + 3) s) ≡ key_in s at
  unfolding window
  key-part {n} e = let z : at + 3 + n - (at + 3) ≡ n = omega arith in rw (z, e)

-- a list of calls from an offset on: one call and the calls behind it, or none
module _ (s : List ℕ) (at f : ℕ) where
  pub calls-more : is_call s at ≡ true → calls_from (suc f) s at ≡ call_at s at ∷ calls_from f s (call_end s at)
  unfolding calls_from
  calls-more e = rw (e, calls_from)

  calls-end : is_call s at ≡ false → calls_from (suc f) s at ≡ []
  unfolding calls_from
  calls-end e = rw (e, calls_from)

pub calls-none : (s : List ℕ) (at f : ℕ) → is_call s at ≡ false → calls_from f s at ≡ []
unfolding calls_from
calls-none s at zero e = refl
calls-none s at (suc f) e = calls-end s at f e

-- the record numbers of a list of bytes have four bytes
module _ (s : List ℕ) (a : All (λ x. x < 256) s) where
  four_bytes : (at : ℕ) → FourBytes (call_at s at)
  four_bytes at = either (eqb (byte_at s at) 0)
      (λ z. rw (lookup-there s at (eqb-true (byte_at s at) 0 z)) tt)
      (λ z. either (eqb (byte_at s at) 2)
      (λ y. rw (removal_there s at (eqb-true (byte_at s at) 2 y)) (le32-small s a (key_end s at)))
      (λ y. rw (insertion-there s at (eqb-false (byte_at s at) 0 z) (eqb-false (byte_at s at) 2 y)) (le32-small s a (key_end s at))))

  all_from : (f at : ℕ) → All FourBytes (calls_from f s at)
  unfolding calls_from
  all_from zero at = tt
  all_from (suc f) at = either (is_call s at)
      (λ e. rw (calls-more s at f e) (four_bytes at, all_from f (call_end s at)))
      (λ e. rw (calls-end s at f e) tt)

  pub calls-small : All FourBytes (calls_in s)
  unfolding calls_in
  calls-small = all_from (length s) 0
