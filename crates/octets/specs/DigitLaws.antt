-- Laws: decimal digits and the numbers that they stand for. Cited by numeric text, dates and memo numbers. Assumes nothing.
use Rattle.std.specs.Prelude.{◌≡◌, Bool, true, false, not, List, [], ◌∷◌, ◌++◌, ◌↔◌, ℕ, zero, suc, ◌+◌, ◌*◌, ◌-◌, ◌/◌, ◌%◌, ◌^◌, ◌≤◌, ◌<◌, eqb, leb, ltb, length}
use Rattle.std.proofs.Math.Path.{refl}
use Rattle.std.proofs.Common.{ap, ◌∙◌, pow-suc, add-zero, zero-add, add-suc, suc-add, div-one, div-lt_iff_lt-mul, mod-eq_of_lt, arith, lit<, length-append, ltb-true, ltb-false, lt-ltb, le-ltb, leb-true, leb-false, ne_eqb}
use Rattle.std.proofs.Math.Nat.{pow-succ', one-le-pow, div-div-eq-div-mul, mod-one}
use Rattle.std.proofs.Math.Arith.{mod-mul}
use Rattle.basis.specs.Tests.{either, contra, both}
use Rattle.octets.specs.Text.{every, zero_digit, is_digit, number_from, number_of, last_digits, decimal_from, decimal}
use Rattle.octets.specs.TextLaws.{digit_range, digit_of, every_append}

-- a power of ten is not zero
pub ten_pos : (k : ℕ) → 0 < 10 ^ k
ten_pos k = one-le-pow k 10 (omega arith)

-- ---- the last digits

pub length-last_digits : (count n : ℕ) → length (last_digits count n) ≡ count
unfolding last_digits
length-last_digits zero n = refl
length-last_digits (suc count) n = rw length-append (omega (arith, length-last_digits count (n / 10)))

-- one digit more stands in front
pub last_digits-front : (count n : ℕ) → last_digits (suc count) n ≡ (zero_digit + n / 10 ^ count % 10) ∷ last_digits count n
unfolding last_digits
last_digits-front zero n = rw div-one
last_digits-front (suc count) n =
    rw (last_digits-front count (n / 10), div-div-eq-div-mul n 10 (10 ^ count), ← pow-succ' 10 count)

-- ---- the digits of a number, by those of its tenth

-- fuel of n or more gives the same digits of n
fuel_enough : (fuel more n : ℕ) → n ≤ fuel → fuel ≤ more → decimal_from fuel n ≡ decimal_from more n
unfolding decimal_from
fuel_enough zero zero n l m = refl
fuel_enough zero (suc more) n l m = let e : n ≡ 0 = omega arith in rw e
fuel_enough (suc fuel) zero n l m = absurd (omega arith)
fuel_enough (suc fuel) (suc more) n l m = either (ltb n 10)
    (λ e. rw (e, decimal_from))
    (λ e. let b : 10 ≤ n = ltb-false n 10 e in rw (e, decimal_from, fuel_enough fuel more (n / 10) (omega arith) (omega arith)))

decimal-small : (n : ℕ) → n < 10 → decimal n ≡ (zero_digit + n) ∷ []
unfolding decimal decimal_from
decimal-small zero h = refl
decimal-small (suc n) h = rw (lt-ltb (suc n) 10 h, decimal_from)

decimal-more : (n : ℕ) → 10 ≤ n → decimal n ≡ decimal (n / 10) ++ ((zero_digit + n % 10) ∷ [])
unfolding decimal decimal_from
decimal-more zero h = absurd (omega arith)
decimal-more (suc n) h = rw (le-ltb (suc n) 10 h, decimal_from, fuel_enough (suc n / 10) n (suc n / 10) (omega arith) (omega arith))

-- P holds of every number if it holds of those below ten, and of a number from ten on whenever it holds of its tenth
tens_below : (P : ℕ → Type 0) → ((n : ℕ) → n < 10 → P n) → ((n : ℕ) → 10 ≤ n → P (n / 10) → P n)
    → (bound n : ℕ) → n ≤ bound → P n
tens_below P few more zero n l = few n (omega arith)
tens_below P few more (suc bound) n l = either (ltb n 10)
    (λ e. few n (ltb-true n 10 e))
    (λ e. let b : 10 ≤ n = ltb-false n 10 e in more n b (tens_below P few more bound (n / 10) (omega arith)))

by_tens : (P : ℕ → Type 0) → ((n : ℕ) → n < 10 → P n) → ((n : ℕ) → 10 ≤ n → P (n / 10) → P n) → (n : ℕ) → P n
by_tens P few more n = tens_below P few more n n (omega arith)

-- the digits of a number are its last digits, as many as it has
pub decimal-last : (n : ℕ) → decimal n ≡ last_digits (length (decimal n)) n
unfolding last_digits
decimal-last = by_tens (λ n. decimal n ≡ last_digits (length (decimal n)) n)
    (λ n h. rw (decimal-small n h, mod-eq_of_lt h))
    (λ n h ih.
    let l : length (decimal n) ≡ suc (length (decimal (n / 10))) = rw (decimal-more n h, length-append) (omega arith) in
    rw (l, ← ih) (decimal-more n h))

-- ---- the count of the digits

pub decimal-some : (n : ℕ) → 1 ≤ length (decimal n)
decimal-some n = either (ltb n 10)
    (λ e. rw (decimal-small n (ltb-true n 10 e)) (omega arith))
    (λ e. rw (decimal-more n (ltb-false n 10 e), length-append) (omega arith))

-- n has at most k digits, for k from 1 on, exactly if it is below 10 ^ k; so it has l digits if 10 ^ (l - 1) ≤ n < 10 ^ l
fits-few : (n k : ℕ) → n < 10 → (length (decimal n) ≤ suc k) ↔ (n < 10 ^ suc k)
fits-few n k h = rw (decimal-small n h, pow-succ' 10 k) (let p = ten_pos k in omega arith)

fits_more : (n : ℕ) → 10 ≤ n → ((k : ℕ) → (length (decimal (n / 10)) ≤ suc k) ↔ (n / 10 < 10 ^ suc k))
    → (k : ℕ) → (length (decimal n) ≤ suc k) ↔ (n < 10 ^ suc k)
fits_more n h ih zero = rw (decimal-more n h, length-append) (let s = decimal-some (n / 10) in omega arith)
fits_more n h ih (suc k) = rw (decimal-more n h, length-append, pow-suc 10 (suc k)) (
    let d : (n / 10 < 10 ^ suc k) ↔ (n < 10 ^ suc k * 10) = div-lt_iff_lt-mul (omega arith) in
    ((λ l. d.0 ((ih k).0 (omega arith))), (λ l. let m = (ih k).1 (d.1 l) in omega arith)))

decimal-fits_suc : (n k : ℕ) → (length (decimal n) ≤ suc k) ↔ (n < 10 ^ suc k)
decimal-fits_suc = by_tens (λ n. (k : ℕ) → (length (decimal n) ≤ suc k) ↔ (n < 10 ^ suc k))
    (λ n h k. fits-few n k h)
    (λ n h ih k. fits_more n h ih k)

pub decimal-fits : (n k : ℕ) → 1 ≤ k → (length (decimal n) ≤ k) ↔ (n < 10 ^ k)
decimal-fits n zero h = absurd (omega arith)
decimal-fits n (suc k) h = decimal-fits_suc n k

pub decimal-over : (n k : ℕ) → 1 ≤ k → 10 ^ k ≤ n → k < length (decimal n)
decimal-over n k h l = either (leb (length (decimal n)) k)
    (λ e. let b = (decimal-fits n k h).0 (leb-true _ _ e) in absurd (omega arith))
    (λ e. leb-false _ _ e)

-- ---- all of them are digits, and no needless zero leads

pub last_digits-digits : (count n : ℕ) → every is_digit (last_digits count n) ≡ true
unfolding last_digits every
last_digits-digits zero n = refl
last_digits-digits (suc count) n =
    rw (every_append is_digit (last_digits count (n / 10)), last_digits-digits count (n / 10), digit_of (n % 10) (omega arith))

pub decimal-digits : (n : ℕ) → every is_digit (decimal n) ≡ true
decimal-digits n = ap (every is_digit) (decimal-last n) ∙ last_digits-digits _ n

-- the text has a first character, which is not the digit zero
unfoldable pub leads : List ℕ → Bool
leads [] = false
leads (c ∷ s) = not (eqb c zero_digit)

leads_append : (s t : List ℕ) → leads s ≡ true → leads (s ++ t) ≡ true
unfolding leads
leads_append [] t e = contra e refl
leads_append (c ∷ s) t e = e

pub decimal-leads : (n : ℕ) → 1 ≤ n → leads (decimal n) ≡ true
unfolding leads
decimal-leads = by_tens (λ n. 1 ≤ n → leads (decimal n) ≡ true)
    (λ n h l. rw (decimal-small n h, ne_eqb (zero_digit + n) zero_digit (omega arith)))
    (λ n h ih l. rw (decimal-more n h) (leads_append (decimal (n / 10)) _ (ih (omega arith))))

-- ---- the number that digits stand for

number_append : (m : ℕ) (s t : List ℕ) → number_from m (s ++ t) ≡ number_from (number_from m s) t
unfolding number_from
number_append m [] t = refl
number_append m (c ∷ s) t = number_append (10 * m + (c - zero_digit)) s t

pub number-after : (s t : List ℕ) → number_of (s ++ t) ≡ number_from (number_of s) t
unfolding number_of
number-after s t = number_append 0 s t

number_snoc : (m : ℕ) (s : List ℕ) (n : ℕ) → number_from m (s ++ ((zero_digit + n) ∷ [])) ≡ 10 * number_from m s + n
unfolding number_from
number_snoc m s n = rw (number_append m s) (omega arith)

pub number-decimal : (n : ℕ) → number_of (decimal n) ≡ n
unfolding number_of number_from
number-decimal = by_tens (λ n. number_of (decimal n) ≡ n)
    (λ n h. rw (decimal-small n h) (omega arith))
    (λ n h ih. rw (decimal-more n h, number_snoc 0 (decimal (n / 10)) (n % 10), ih) (omega arith))

pub number-last_digits : (m count n : ℕ) → number_from m (last_digits count n) ≡ m * 10 ^ count + n % 10 ^ count
unfolding last_digits number_from
number-last_digits m zero n = rw (mod-one) (omega arith)
number-last_digits m (suc count) n =
    rw (
      number_snoc m (last_digits count (n / 10)) (n % 10),
      number-last_digits m count (n / 10),
      pow-suc 10 count,
      mod-mul n {c = 10} (ten_pos count) (omega arith),
    )
    (omega arith)

-- the last count digits of a number below 10 ^ count stand for it
pub number-last : (count n : ℕ) → n < 10 ^ count → number_of (last_digits count n) ≡ n
unfolding number_of
number-last count n h = number-last_digits 0 count n ∙ rw (mod-eq_of_lt h) (omega arith)

-- ---- the size of the number that digits stand for

-- one digit more multiplies the bound on a number by ten
pub digit_bound : (n k c : ℕ) → n < 10 ^ k → is_digit c ≡ true → 10 * n + (c - zero_digit) < 10 ^ suc k
digit_bound n k c below digit = let r = digit_range c digit in rw pow-suc (omega arith)

-- the characters s behind a number at or above 10 ^ k make a number at or above 10 ^ (k + length s)
pub number-least : (s : List ℕ) (k n : ℕ) → 10 ^ k ≤ n → 10 ^ (k + length s) ≤ number_from n s
unfolding number_from
number-least [] k n h = rw (add-zero k) h
number-least (c ∷ s) k n h = rw (add-suc k (length s), ← (suc-add k (length s))) (number-least s (suc k) _ (omega arith))

-- the digits s behind a number below 10 ^ k make a number below 10 ^ (k + length s)
number-most : (s : List ℕ) (k n : ℕ) → n < 10 ^ k → every is_digit s ≡ true → number_from n s < 10 ^ (k + length s)
unfolding number_from every
number-most [] k n h e = rw (add-zero k) h
number-most (c ∷ s) k n h e =
    let parts = both (is_digit c) (every is_digit s) e in
    rw (add-suc k (length s), ← (suc-add k (length s))) (number-most s (suc k) _ (digit_bound n k c h parts.0) parts.1)

-- digits stand for a number below 10 to the power of their count
pub number_bound : (s : List ℕ) → every is_digit s ≡ true → number_of s < 10 ^ length s
unfolding number_of
number_bound s e = rw (zero-add (length s)) at (number-most s 0 0 (lit< tt) e)

-- ---- digits are the digits of the number that they stand for

pub number_div : (m : ℕ) (s : List ℕ) → every is_digit s ≡ true → number_from m s / 10 ^ length s ≡ m
unfolding every number_from
number_div m [] e = div-one m
number_div m (c ∷ s) e =
    let h = both (is_digit c) (every is_digit s) e in
    let b = digit_range c h.0 in
    rw (pow-suc 10 (length s), ← div-div-eq-div-mul _ (10 ^ length s) 10, number_div (10 * m + (c - zero_digit)) s h.1) (omega arith)

pub last-number : (m : ℕ) (s : List ℕ) → every is_digit s ≡ true → last_digits (length s) (number_from m s) ≡ s
unfolding every number_from
last-number m [] e = unfold last_digits in refl
last-number m (c ∷ s) e =
    let h = both (is_digit c) (every is_digit s) e in
    let b = digit_range c h.0 in
    let q : zero_digit + (10 * m + (c - zero_digit)) % 10 ≡ c = omega arith in
    rw (last_digits-front (length s), number_div (10 * m + (c - zero_digit)) s h.1, last-number (10 * m + (c - zero_digit)) s h.1, q)

-- a number between two powers of ten has a known count of digits
count-is : (n k : ℕ) → n < 10 ^ suc k → (1 ≤ k → 10 ^ k ≤ n) → length (decimal n) ≡ suc k
count-is n zero h l = let a = (decimal-fits n 1 (omega arith)).1 h in let b = decimal-some n in omega arith
count-is n (suc k) h l =
    let a = (decimal-fits n (suc (suc k)) (omega arith)).1 h in
    let b = decimal-over n (suc k) (omega arith) (l (omega arith)) in
    omega arith

-- digits without a needless leading zero are the digits of their number
pub decimal-number : (c : ℕ) (s : List ℕ) → every is_digit (c ∷ s) ≡ true → (1 ≤ length s → c ≡ zero_digit → ⊥)
    → decimal (number_of (c ∷ s)) ≡ c ∷ s
unfolding every number_of number_from
decimal-number c s e l =
    let n = number_from 0 (c ∷ s) in
    let b = digit_range c (both (is_digit c) (every is_digit s) e).0 in
    let from : 1 ≤ length s → 10 ^ length s ≤ n =
    λ f.
    let ne : c ≡ zero_digit → ⊥ = l f in
    rw (zero-add (length s)) at (number-least s 0 (10 * 0 + (c - zero_digit)) (omega arith)) in
    decimal-last n ∙ ap (λ (k : ℕ). last_digits k n) (count-is n (length s) (number_bound (c ∷ s) e) from) ∙ last-number 0 (c ∷ s) e
