-- Laws: what a good header says of a file, and the pages along the right links. Cited by the proofs of the functions with loops along them. Assumes nothing.
use Prim.Native.Nat.{ℕ, zero, suc, ◌-◌}
use Rattle.std.specs.Prelude.{◌≡◌, true, false, List, [], ◌∷◌}
use Rattle.std.proofs.Math.Path.{refl}
use native.Mathlib.Omega.{arith}
use Rattle.idx_page.specs.Header.{is_page, file_size, key_length, header_good}
use Rattle.idx_page.specs.HeaderLaws.{good-header}
use Rattle.idx_page.specs.Page.{right_at}
use Rattle.idx_sound.specs.AuditTest.{chain}
use Rattle.idx_keys.specs.Places.{InFile}

module _ (b : List ℕ) (k size a : ℕ) where
  pub chain-none : (p left : ℕ) → is_page size p ≡ false → chain b size left p ≡ []
  unfolding chain
  chain-none p zero e = refl
  chain-none p (suc l) e = rw (e, chain)

  pub chain-some : (p left q : ℕ) → (left ≡ 0 → ⊥) → is_page size p ≡ true → q ≡ right_at b p → chain b size left p ≡ p ∷ chain b size (left - 1) q
  unfolding chain
  chain-some p zero q n e eq = absurd (n refl)
  chain-some p (suc l) q n e eq = let d : suc l - 1 ≡ l = omega arith in rw (e, chain, d, eq)

-- what a good header says of the file
pub in_file : (b : List ℕ) (k size : ℕ) → header_good b ≡ true → k ≡ key_length b → size ≡ file_size b → InFile b k size
in_file b k size e ek es =
    let g = good-header b e in
    record { key = omega arith; long = g.long; within = omega arith; most = omega arith }
