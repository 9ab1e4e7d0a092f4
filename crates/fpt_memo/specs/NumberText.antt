-- Laws: each memo number has one text, and that text gives the number back; only ten blanks are empty. Assumes nothing.
use Rattle.std.specs.Prelude.{Ok, Err, Some, None, ◌≡◌, refl, true, ◌&&◌, List, [], ◌∷◌, ◌++◌, ◌↔◌, ℕ, ◌^◌, ◌-◌, ◌≤◌, ◌<◌, ltb, eqb, length, replicate}
use Rattle.std.proofs.Common.{sym, ap, ◌∙◌, arith, length-append, lt-ltb}
use Rattle.std.proofs.lemmas.List.{length-replicate}
use Rattle.std.proofs.lemmas.Bool.{eqb-false}
use Rattle.basis.specs.Tests.{either, contra, both, impossible}
use Rattle.octets.specs.Text.{every, blank, unpadded, zero_digit, is_digit, number_of, decimal}
use Rattle.octets.specs.TextLaws.{digit_range, unpadded_digit, unpadded_blanks, unpadded-front}
use Rattle.octets.specs.DigitLaws.{decimal-fits, decimal-digits, leads, decimal-leads, number-decimal}
use Rattle.fpt_memo.specs.Memo.{MemoNumber, bad_number, digits_number, memo_number, memo_number_text, NumberAnswer}
use Rattle.fpt_memo.specs.NumberLaws.{digits-said, number_read, number_between, bad-number, number-refusal}

-- ten characters are blanks, and behind them what is left without the blanks
text_is : (text s : List ℕ) → length text ≡ 10 → unpadded text ≡ s → text ≡ replicate (10 - length s) blank ++ s
text_is text s long e = rw (long, e) at (unpadded-front text)

-- digits whose first is no zero say their number
said-digits : (w : List ℕ) → every is_digit w ≡ true → leads w ≡ true → digits_number (unpadded w) ≡ Ok (Some (number_of w))
unfolding every leads digits_number
said-digits [] e l = contra l refl
said-digits (c ∷ s) e l =
    let digit = (both (is_digit c) (every is_digit s) e).0 in
    let range = digit_range c digit in
    either (eqb c zero_digit)
    (λ z. contra l (rw z))
    (λ z. let other = eqb-false c zero_digit z in rw (unpadded_digit c s digit, lt-ltb zero_digit c (omega arith), e))

-- so the text of n says n
number-of : (n : ℕ) → 1 ≤ n → n < 10 ^ 10 → memo_number (memo_number_text 10 n) ≡ Ok (Some n)
unfolding memo_number memo_number_text
number-of n h l =
    let few = (decimal-fits n 10 (omega arith)).1 l in
    let long : length (memo_number_text 10 n) ≡ 10 = rw (length-append, length-replicate) (omega arith) in
    rw (long, unpadded_blanks, said-digits (decimal n) (decimal-digits n) (decimal-leads n h), number-decimal n)

-- a text says n exactly if it is the text of n, and n is from 1 to ten digits
pub number-exactly : (text : List ℕ) (n : ℕ) → (memo_number text ≡ Ok (Some n)) ↔ ((1 ≤ n) × (n < 10 ^ 10) × (text ≡ memo_number_text 10 n))
unfolding memo_number_text
number-exactly text n = (
  λ e.
      let b = number_between text n e in
      let read = number_read text (Ok (Some n)) (bad-number n) e in
      (b.0, b.1, text_is text (decimal n) read.0 (digits-said (unpadded text) n read.1).2),
  λ h. rw h.2 (number-of n h.0 h.1),
)

refused_number : (k n : ℕ) → ◌≡◌ {A = MemoNumber} (Err k) (Ok (Some n)) → ⊥
refused_number k n e = impossible (cc)

refused_blank : (k : ℕ) → ◌≡◌ {A = MemoNumber} (Err k) (Ok None) → ⊥
refused_blank k e = impossible (cc)

bad-blank : ◌≡◌ {A = MemoNumber} (Err bad_number) (Ok None) → ⊥
bad-blank e = impossible (cc)

-- a text is blank only if nothing stands behind its blanks
nothing_said : (s : List ℕ) → digits_number s ≡ Ok None → s ≡ []
unfolding digits_number
nothing_said [] e = refl
nothing_said (c ∷ s) e = either (ltb zero_digit c && every is_digit (c ∷ s))
    (λ t. let q : Ok (Some (number_of (c ∷ s))) ≡ Ok None = rw t at e in impossible (cc))
    (λ t. absurd (bad-blank (rw t at e)))

-- "ten blanks is empty"
pub blank-exactly : (text : List ℕ) → (memo_number text ≡ Ok None) ↔ (text ≡ replicate 10 blank)
unfolding memo_number unpadded digits_number
blank-exactly text = (
  λ e. let read = number_read text (Ok None) bad-blank e in text_is text [] read.0 (nothing_said (unpadded text) read.1),
  λ h. rw h,
)

-- ---- the answer's number and values

one_value : (n m : ℕ) → n ∷ [] ≡ m ∷ [] → n ≡ m
one_value n m e = cc

no_value : (n : ℕ) → [] ≡ n ∷ [] → ⊥
no_value n e = impossible (cc)

number-blank : (n : ℕ) → ◌≡◌ {A = MemoNumber} (Ok (Some n)) (Ok None) → ⊥
number-blank n e = impossible (cc)

same_number : (n m : ℕ) → ◌≡◌ {A = MemoNumber} (Ok (Some n)) (Ok (Some m)) → n ≡ m
same_number n m e = cc

pub number-answer : (text : List ℕ) (r : MemoNumber) → r ≡ memo_number text → NumberAnswer text r
number-answer text (Ok (Some m)) e = record {
  case = e;
  accepted = λ n. (
    λ h. (number-exactly text n).0 (sym e ∙ ap (λ (k : ℕ). Ok (Some k)) (one_value m n h.1)),
    λ h. (refl, ap (λ (k : ℕ). k ∷ []) (same_number m n (e ∙ (number-exactly text n).1 h))),
  );
  empty = (λ z. absurd (omega (arith, z)), λ h. absurd (number-blank m (e ∙ (blank-exactly text).1 h)));
}
number-answer text (Ok None) e = record {
  case = e;
  accepted = λ n. (λ h. absurd (no_value n h.1), λ h. absurd (number-blank n (sym ((number-exactly text n).1 h) ∙ sym e)));
  empty = (λ z. (blank-exactly text).0 (sym e), λ h. refl);
}
number-answer text (Err k) e = record {
  case = e;
  accepted = λ n. (λ h. absurd (no_value n h.1), λ h. absurd (refused_number k n (e ∙ (number-exactly text n).1 h)));
  empty = (λ z. let bad = number-refusal text k (sym e) in absurd (omega arith), λ h. absurd (refused_blank k (e ∙ (blank-exactly text).1 h)));
}
