-- Laws: the whole part and the fraction of a number as it is written. Assumes nothing.
use Rattle.std.specs.Prelude.{◌≡◌, refl, true, ◌||◌, not, List, [], ◌∷◌, ◌++◌, ◌↔◌, ℕ, zero, suc, ◌+◌, ◌*◌, ◌-◌, ◌/◌, ◌^◌, ◌≤◌, ◌<◌, eqb, leb, max, length}
use Rattle.std.proofs.Common.{div-lt_iff_lt-mul, div-add-mod', arith, pow-add, eq-eqb, ne_eqb, leb-true, leb-false}
use Rattle.std.proofs.Math.Nat.{pow-succ'}
use Rattle.basis.specs.Tests.{either, contra, both}
use Rattle.octets.specs.Text.{every, zero_digit, is_digit, number_of, last_digits, decimal_from, decimal}
use Rattle.octets.specs.DigitLaws.{ten_pos, decimal-some, decimal-fits, decimal-over, decimal-digits, leads, decimal-leads, number-after, number-decimal, number-last_digits}
use Rattle.octets.specs.DigitLaws.{number_div, last-number, decimal-number}
use Rattle.numeral.specs.Reading.{whole_good}

-- the digits before the last d: all but d digits of n, and one at least
module _ (n d : ℕ) where
  shift_fits : (k : ℕ) → 1 ≤ k → (length (decimal (n / 10 ^ d)) ≤ k) ↔ (length (decimal n) ≤ k + d)
  shift_fits k h =
      let p = ten_pos d in
      let q : (n / 10 ^ d < 10 ^ k) ↔ (n < 10 ^ (k + d)) = rw pow-add (div-lt_iff_lt-mul p) in
      let a = decimal-fits (n / 10 ^ d) k h in
      let b = decimal-fits n (k + d) (omega arith) in
      ((λ l. b.1 (q.0 (a.0 l))), (λ l. a.1 (q.1 (b.0 l))))

  pub decimal-short : length (decimal n) ≤ d → length (decimal (n / 10 ^ d)) ≡ 1
  decimal-short h =
      let s = decimal-some (n / 10 ^ d) in
      let t = (shift_fits 1 (omega arith)).1 (omega arith) in
      omega arith

  pub decimal-long : d < length (decimal n) → length (decimal (n / 10 ^ d)) + d ≡ length (decimal n)
  decimal-long h =
      let s = decimal-some (n / 10 ^ d) in
      let t = (shift_fits (length (decimal n) - d) (omega arith)).1 (omega arith) in
      let u = (shift_fits (length (decimal (n / 10 ^ d))) s).0 (omega arith) in
      omega arith

  -- so their count follows from the count of the digits of n, and that from the powers of ten around n
  pub whole_count : length (decimal (n / 10 ^ d)) ≡ max (length (decimal n) - d) 1
  whole_count = either (leb (length (decimal n)) d)
      (λ e. let few = leb-true _ _ e in let short = decimal-short few in omega arith)
      (λ e. let many = leb-false _ _ e in let long = decimal-long many in omega arith)

pub decimal_count : (n k : ℕ) → 10 ^ k ≤ max n 1 → max n 1 < 10 * 10 ^ k → length (decimal n) ≡ k + 1
decimal_count n zero l h = let a = decimal-some n in let b = (decimal-fits n 1 (omega arith)).1 (omega arith) in omega arith
decimal_count n (suc k) l h =
    let p = ten_pos k in
    let e = pow-succ' 10 k in
    let f = pow-succ' 10 (suc k) in
    let a = decimal-over n (suc k) (omega arith) (omega arith) in
    let b = (decimal-fits n (suc (suc k)) (omega arith)).1 (omega arith) in
    omega arith

-- ---- no needless zero leads

leads-good : (w : List ℕ) → every is_digit w ≡ true → leads w ≡ true → whole_good w ≡ true
unfolding leads whole_good
leads-good [] e l = contra l refl
leads-good (c ∷ s) e l = rw (e, l)

pub decimal-good : (n : ℕ) → whole_good (decimal n) ≡ true
unfolding whole_good decimal decimal_from every
decimal-good zero = refl
decimal-good (suc n) = leads-good (decimal (suc n)) (decimal-digits (suc n)) (decimal-leads (suc n) (omega arith))

-- ---- the number that they stand for, and back

-- the written digits of n, d of them behind the point, stand for n
pub number-written : (n d : ℕ) → number_of (decimal (n / 10 ^ d) ++ last_digits d n) ≡ n
number-written n d = rw (number-after (decimal (n / 10 ^ d)), number-last_digits, number-decimal (n / 10 ^ d)) (div-add-mod' n (10 ^ d))

decimal-whole : (w : List ℕ) → whole_good w ≡ true → decimal (number_of w) ≡ w
unfolding whole_good
decimal-whole [] e = contra e refl
decimal-whole (c ∷ s) e =
    let h = both (every is_digit (c ∷ s)) (not (eqb c zero_digit) || eqb (length s) 0) e in
    decimal-number c s h.0 (λ l z. contra h.1 (rw (eq-eqb c zero_digit z, ne_eqb (length s) 0 (omega arith))))

-- and a whole part and d digits behind the point are the written digits of their number
pub digits-back : (w f : List ℕ) (d : ℕ) → whole_good w ≡ true → every is_digit f ≡ true → length f ≡ d
    → (decimal (number_of (w ++ f) / 10 ^ d) ≡ w) × (last_digits d (number_of (w ++ f)) ≡ f)
digits-back w f d a b e = rw (number-after w f, ← e) (rw (number_div (number_of w) f b) (decimal-whole w a), last-number (number_of w) f b)
