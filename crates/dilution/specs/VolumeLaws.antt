-- Laws: "to the nearest tenth, halves up, so twice the gap, times the concentration, is at most the concentration"; "Sample and diluent add to the final
-- volume". Assumes nothing.
use Rattle.std.specs.Prelude.{ℕ, ◌+◌, ◌*◌, ◌-◌, ◌/◌, ◌≤◌, ◌<◌, ◌≡◌, ◌⊎◌, ltb, eqb}
use Rattle.std.proofs.Common.{inl, inr, mul_assoc, mul_comm, mul_left_comm, add-mul, mul-le-mul_right, div-mul-le_self, div-lt_iff_lt-mul, arith, ltb-true}
use Rattle.std.proofs.Common.{ltb-false, eqb-true}
use Rattle.std.proofs.Math.Nat.{lt-div-mul-add}
use Rattle.std.proofs.lemmas.Bool.{eqb-false}
use Rattle.basis.specs.Tests.{either}
use Rattle.dilution.specs.Dilution.{sample_of}

-- how far apart two numbers are
abbrev pub gap : ℕ → ℕ → ℕ
gap m n = (m - n) + (n - m)

-- x tenths of a sample of concentration c hold the amount, to the nearest tenth, halves up: `amount` is target × final, so x is compared with amount ÷ c
pub record NearestTenth (c amount x : ℕ) : Type 0 where
  -- "twice the gap, times the concentration, is at most the concentration"
  pub near : 2 * gap (x * c) amount ≤ c
  -- no number of tenths is nearer
  pub nearest : (y : ℕ) → gap (x * c) amount ≤ gap (y * c) amount
  -- "halves up": if another is as near, it is the one below
  pub upper : (y : ℕ) → gap (y * c) amount ≡ gap (x * c) amount → (y ≡ x) ⊎ (y + 1 ≡ x)

-- the two bounds of a number that is rounded so
pub record Rounded (c amount x : ℕ) : Type 0 where
  pub below : 2 * (x * c) ≤ 2 * amount + c
  pub above : 2 * amount < 2 * (x * c) + c

sample_rounded : (c target final : ℕ) → 0 < c → Rounded c (target * final) (sample_of c target final)
unfolding sample_of
sample_rounded c target final some =
    let s = (2 * target * final + c) / (2 * c) in
    let amount : 2 * target * final ≡ 2 * (target * final) = mul_assoc 2 target final in
    let twice : s * (2 * c) ≡ 2 * (s * c) = mul_left_comm s 2 c in
    let low : s * (2 * c) ≤ 2 * target * final + c = div-mul-le_self (2 * target * final + c) (2 * c) in
    let high : 2 * target * final + c < s * (2 * c) + 2 * c = lt-div-mul-add (omega arith) in
    record { below = omega arith; above = omega arith }

-- tenths more make c more for each
apart : (c x y : ℕ) → x < y → x * c + c ≤ y * c
apart c x y l = let e : (x + 1) * c ≡ x * c + 1 * c = add-mul x 1 c in omega (arith, mul-le-mul_right {m = x + 1} {n = y} c (omega arith), e)

module _ (c amount x : ℕ) (some : 0 < c) (r : Rounded c amount x) where
  -- Theorem: no other number is rounded so
  pub one_rounded : (y : ℕ) → Rounded c amount y → y ≡ x
  one_rounded y q = either (ltb x y)
      (λ l. absurd (omega (arith, apart c x y (ltb-true x y l), r.above, q.below)))
      (λ l. either (ltb y x)
      (λ g. absurd (omega (arith, apart c y x (ltb-true y x g), q.above, r.below)))
      (λ g. omega (arith, ltb-false x y l, ltb-false y x g)))

  rounded_nearest : (y : ℕ) → gap (x * c) amount ≤ gap (y * c) amount
  rounded_nearest y = either (ltb x y)
      (λ l. omega (arith, apart c x y (ltb-true x y l), r.below, r.above))
      (λ l. either (ltb y x)
      (λ g. omega (arith, apart c y x (ltb-true y x g), r.below, r.above))
      (λ g. let e : y ≡ x = omega (arith, ltb-false x y l, ltb-false y x g) in rw e (omega arith)))

  rounded_upper : (y : ℕ) → gap (y * c) amount ≡ gap (x * c) amount → (y ≡ x) ⊎ (y + 1 ≡ x)
  rounded_upper y h = either (ltb x y)
      (λ l. absurd (omega (arith, apart c x y (ltb-true x y l), r.below, r.above, h)))
      (λ l. either (ltb (y + 1) x)
      (λ g. absurd (omega (arith, apart c (y + 1) x (ltb-true (y + 1) x g), add-mul y 1 c, r.below, r.above, h)))
      (λ g. either (eqb y x)
      (λ e. inl (eqb-true y x e))
      (λ e. inr (omega (arith, ltb-false x y l, ltb-false (y + 1) x g, eqb-false y x e)))))

  rounded_tenth : NearestTenth c amount x
  rounded_tenth = record { near = omega (arith, r.below, r.above); nearest = rounded_nearest; upper = rounded_upper }

-- Theorem: the quotient, and one more if the remainder is half the concentration or more, is the sample
module _ (c target final whole rest : ℕ) (some : 0 < c) (parts : whole * c + rest ≡ target * final) (low : rest < c) where
  pub sample_up : c ≤ 2 * rest → whole + 1 ≡ sample_of c target final
  sample_up half =
      let more : (whole + 1) * c ≡ whole * c + 1 * c = add-mul whole 1 c in
      one_rounded c (target * final) _ some (sample_rounded c target final some) (whole + 1) (record { below = omega arith; above = omega arith })

  pub sample-down : 2 * rest < c → whole ≡ sample_of c target final
  sample-down less = one_rounded c (target * final) _ some (sample_rounded c target final some) whole (record { below = omega arith; above = omega arith })

-- Theorem: the sample is the nearest tenth, halves up
pub sample-nearest : (c target final : ℕ) → 0 < c → NearestTenth c (target * final) (sample_of c target final)
sample-nearest c target final some = rounded_tenth c (target * final) _ some (sample_rounded c target final some)

-- Theorem: the sample is at most the final volume
pub sample-most : (c target final : ℕ) → 0 < c → target ≤ c → sample_of c target final ≤ final
unfolding sample_of
sample-most c target final some h =
    let n = 2 * target * final + c in
    let amount : 2 * target * final ≡ 2 * (target * final) = mul_assoc 2 target final in
    let most : target * final ≤ c * final = mul-le-mul_right final h in
    let whole : (final + 1) * (2 * c) ≡ final * (2 * c) + 1 * (2 * c) = add-mul final 1 (2 * c) in
    let twice : final * (2 * c) ≡ 2 * (final * c) = mul_left_comm final 2 c in
    let turned : final * c ≡ c * final = mul_comm final c in
    let less : n / (2 * c) < final + 1 = (div-lt_iff_lt-mul {k = 2 * c} {x = n} {y = final + 1} (omega arith)).1 (omega arith) in
    omega arith
