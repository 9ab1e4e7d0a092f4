-- Laws: what a memo number's text says from its character i on, and the numbers that it can give. Assumes nothing.
use Rattle.std.specs.Prelude.{◌≡◌, ◌&&◌, List, [], ◌∷◌, ℕ, suc, ◌+◌, ◌*◌, ◌-◌, ◌^◌, ◌≤◌, ◌<◌, ltb, eqb, length, take, None, Some, Option, Ok, Err}
use Rattle.std.proofs.Common.{sym, arith, lit<, drop_of_length-le, take_all}
use Rattle.std.proofs.Math.Nat.{pow-le-pow_right}
use Rattle.std.proofs.Math.ListN.{drop, length-drop}
use Rattle.std.proofs.Math.Seq.{drop-cons}
use borrow.Author.Tests.{ltb-true, lt-ltb, le-ltb, eqb-true}
use Rattle.basis.specs.Tests.{either, both, first_arm, impossible}
use Rattle.octets.specs.Bytes.{byte_at}
use Rattle.octets.specs.Text.{every, unpadded, zero_digit, is_digit, number_from, number_of, digits_of, decimal}
use Rattle.octets.specs.TextLaws.{unpadded-short}
use Rattle.octets.specs.DigitLaws.{ten_pos, number-least, number_bound, decimal-number}
use Rattle.fpt_memo.specs.Memo.{MemoNumber, bad_number, digits_number, memo_number}

-- ---- a text from its character i on

-- ten characters say what those behind the blanks do
pub number-said : (text : List ℕ) (i : ℕ) → length text ≡ 10 → drop i text ≡ unpadded text → memo_number text ≡ digits_number (drop i text)
unfolding memo_number
number-said text i long e = rw (long, e)

pub number-blank : (text : List ℕ) (i : ℕ) → length text ≤ i → digits_number (drop i text) ≡ Ok None
unfolding digits_number
number-blank text i h = rw (drop_of_length-le)

-- what the digits behind the blanks say
abbrev pub of_digits : Option ℕ → MemoNumber
of_digits (Some n) = Ok (Some n)
of_digits None = Err bad_number

-- the first character behind the blanks tells a leading zero
module _ (text : List ℕ) (i : ℕ) (h : i < length text) where
  pub number-zero : byte_at text i ≤ zero_digit → digits_number (drop i text) ≡ Err bad_number
  unfolding digits_number
  number-zero l = rw (drop-cons text i 0 h, le-ltb zero_digit (byte_at text i) l)

  pub number_digits : zero_digit < byte_at text i → digits_number (drop i text) ≡ of_digits (digits_of (take (length text - i) (drop i text)))
  unfolding digits_number digits_of
  number_digits l =
      rw (take_all (length text - i) (drop i text) (rw length-drop (omega arith)), drop-cons text i 0 h, lt-ltb zero_digit (byte_at text i) l)
      (either (every is_digit (byte_at text i ∷ drop (suc i) text)) (λ e. rw e) (λ e. rw e))

  -- so they are read, or are no digits
  pub number-read : (n : ℕ) → zero_digit < byte_at text i → digits_of (take (length text - i) (drop i text)) ≡ Some n
      → digits_number (drop i text) ≡ Ok (Some n)
  number-read n l e = rw (number_digits l, e)

  pub number_unread : zero_digit < byte_at text i → digits_of (take (length text - i) (drop i text)) ≡ None → digits_number (drop i text) ≡ Err bad_number
  number_unread l e = rw (number_digits l, e)

-- ---- the numbers

-- what a text says is one of three cases, which differ
pub bad-number : (n : ℕ) → ◌≡◌ {A = MemoNumber} (Err bad_number) (Ok (Some n)) → ⊥
bad-number n e = impossible (cc)

blank-number : (n : ℕ) → ◌≡◌ {A = MemoNumber} (Ok None) (Ok (Some n)) → ⊥
blank-number n e = impossible (cc)

-- a number whose first digit is above 0 is at least 1
number-some : (c : ℕ) (s : List ℕ) → zero_digit < c → 1 ≤ number_of (c ∷ s)
unfolding number_of number_from
number-some c s h = omega (arith, number-least s 0 (10 * 0 + (c - zero_digit)) (omega arith), ten_pos (0 + length s))

-- digits that say n are n's decimal digits
pub digits-said : (s : List ℕ) (n : ℕ) → digits_number s ≡ Ok (Some n) → (1 ≤ n) × (n < 10 ^ length s) × (s ≡ decimal n)
unfolding digits_number
digits-said [] n e = absurd (blank-number n e)
digits-said (c ∷ s) n e =
    let read = first_arm (ltb zero_digit c && every is_digit (c ∷ s)) (bad-number n) e in
    let tests = both (ltb zero_digit c) (every is_digit (c ∷ s)) read.0 in
    let first : zero_digit < c = ltb-true zero_digit c tests.0 in
    let same : number_of (c ∷ s) ≡ n = cc in
    rw (← same) (number-some c s first, number_bound (c ∷ s) tests.1, sym (decimal-number c s tests.1 (λ l z. omega arith)))

-- a text that is not bad has ten characters
pub number_read : (text : List ℕ) (q : MemoNumber) → (Err bad_number ≡ q → ⊥) → memo_number text ≡ q
    → (length text ≡ 10) × (digits_number (unpadded text) ≡ q)
unfolding memo_number
number_read text q other e = let ten = first_arm (eqb (length text) 10) other e in (eqb-true (length text) 10 ten.0, ten.1)

-- a number that is read is at least 1 and has at most ten digits
pub number_between : (text : List ℕ) (n : ℕ) → memo_number text ≡ Ok (Some n) → (1 ≤ n) × (n < 10 ^ 10)
number_between text n e =
    let read = number_read text (Ok (Some n)) (bad-number n) e in
    let b = digits-said (unpadded text) n read.1 in
    let short : length (unpadded text) ≤ 10 = omega (arith, unpadded-short text) in
    let l : 10 ^ length (unpadded text) ≤ 10 ^ 10 = pow-le-pow_right (lit< tt) short in
    (b.0, omega arith)

-- a text that says no number is refused by one number alone
same_refusal : (m n : ℕ) → ◌≡◌ {A = MemoNumber} (Err m) (Err n) → n ≡ m
same_refusal m n e = cc

digits_refusal : (s : List ℕ) (n : ℕ) → digits_number s ≡ Err n → n ≡ bad_number
unfolding digits_number
digits_refusal [] n e = impossible (cc)
digits_refusal (c ∷ s) n e =
    either (ltb zero_digit c && every is_digit (c ∷ s))
    (λ good. let q : Ok (Some (number_of (c ∷ s))) ≡ Err n = rw good at e in impossible (cc))
    (λ bad. same_refusal bad_number n (rw bad at e))

pub number-refusal : (text : List ℕ) (n : ℕ) → memo_number text ≡ Err n → n ≡ bad_number
unfolding memo_number
number-refusal text n e =
    either (eqb (length text) 10)
    (λ ten. digits_refusal (unpadded text) n (rw ten at e))
    (λ other. same_refusal bad_number n (rw other at e))
