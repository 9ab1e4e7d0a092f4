-- Laws: blanks on the left, and characters that pass a test, digits among them. Assumes nothing.
use Rattle.std.specs.Prelude.{ℕ, zero, suc, ◌+◌, ◌*◌, ◌-◌, ◌≤◌, ◌<◌, ◌≡◌, refl, Bool, true, false, cond, ◌&&◌, List, [], ◌∷◌, ◌++◌, eqb, leb, length, drop, replicate, None, Some, Option}
use Rattle.std.proofs.Math.Nat.{sub_self}
use Rattle.std.proofs.Common.{add-one, arith, sym, ap, ◌∙◌, length-drop, drop_of_length-le}
use Rattle.std.proofs.Math.Bool.{and_assoc}
use Rattle.std.proofs.Math.Seq.{drop-cons}
use borrow.Author.Tests.{leb-true, le-leb, eqb-true, eqb-false, eq-eqb, ne_eqb}
use Rattle.basis.specs.Tests.{either, both, join}
use Rattle.octets.specs.Bytes.{byte_at}
use Rattle.octets.specs.Text.{every, blank, unpadded, zero_digit, is_digit, number_from, number_of, digits_of}

-- ---- one character

-- a digit's code is from 0x30 to 0x39
pub digit_range : (c : ℕ) → is_digit c ≡ true → (zero_digit ≤ c) × (c ≤ 0x39)
digit_range c e = let t = both (leb zero_digit c) (leb c 0x39) e in (leb-true _ _ t.0, leb-true _ _ t.1)

-- a number below ten has a digit
pub digit_of : (n : ℕ) → n < 10 → is_digit (zero_digit + n) ≡ true
digit_of n small = join _ _ (le-leb zero_digit (zero_digit + n) (omega arith)) (le-leb (zero_digit + n) 0x39 (omega arith))

-- ---- texts put together

pub every_append : (p : ℕ → Bool) (s t : List ℕ) → every p (s ++ t) ≡ every p s && every p t
unfolding every
every_append p [] t = refl
every_append p (c ∷ s) t = rw (every_append p s t) (sym (and_assoc (p c) (every p s) (every p t)))

-- ---- blanks on the left

-- `unpadded` passes a blank and stops at another character
module _ (text : List ℕ) (i : ℕ) (h : i < length text) where
  pub unpadded-blank : byte_at text i ≡ blank → unpadded (drop i text) ≡ unpadded (drop (i + 1) text)
  unfolding unpadded
  unpadded-blank e = rw (add-one, drop-cons text i 0 h, eq-eqb blank _ (sym e))

  pub unpadded-other : (byte_at text i ≡ blank → ⊥) → unpadded (drop i text) ≡ drop i text
  unfolding unpadded
  unpadded-other e = rw (drop-cons text i 0 h, ne_eqb blank _ (λ f. e (sym f)))

-- a digit is no blank
pub unpadded_digit : (c : ℕ) (s : List ℕ) → is_digit c ≡ true → unpadded (c ∷ s) ≡ c ∷ s
unfolding unpadded
unpadded_digit c s e = let r = digit_range c e in rw (ne_eqb blank c (omega arith))

-- `unpadded` takes away blanks that were put before a text
pub unpadded_blanks : (k : ℕ) (s : List ℕ) → unpadded (replicate k blank ++ s) ≡ unpadded s
unfolding unpadded
unpadded_blanks zero s = refl
unpadded_blanks (suc k) s = unpadded_blanks k s

pub unpadded-short : (s : List ℕ) → length (unpadded s) ≤ length s
unfolding unpadded
unpadded-short [] = omega arith
unpadded-short (c ∷ s) = either (eqb blank c) (λ e. rw e (let l = unpadded-short s in omega arith)) (λ e. rw e (omega arith))

-- it takes away blanks alone
pub unpadded-front : (s : List ℕ) → s ≡ replicate (length s - length (unpadded s)) blank ++ unpadded s
unfolding unpadded
unpadded-front [] = refl
unpadded-front (c ∷ s) = either (eqb blank c)
    (λ e.
    let b : c ≡ blank = sym (eqb-true blank c e) in
    let l = unpadded-short s in
    let m : suc (length s) - length (unpadded s) ≡ suc (length s - length (unpadded s)) = omega arith in
    rw (e, m) (ap (λ (x : ℕ). x ∷ s) b ∙ ap (λ (l : List ℕ). blank ∷ l) (unpadded-front s)))
    (λ e. rw (e, sub_self))

-- a text is all blanks exactly if nothing is left of it
pub blanks_left : (s : List ℕ) → every (eqb blank) s ≡ eqb (length (unpadded s)) 0
unfolding every unpadded
blanks_left [] = refl
blanks_left (c ∷ s) = either (eqb blank c) (λ e. rw e (blanks_left s)) (λ e. rw (e, ne_eqb (suc (length s)) 0 (omega arith)))

pub blanks_are : (s : List ℕ) → every (eqb blank) s ≡ true → s ≡ replicate (length s) blank
unfolding every
blanks_are [] e = refl
blanks_are (c ∷ s) e =
    let t = both (eqb blank c) (every (eqb blank) s) e in
    rw (← blanks_are s t.1, ← eqb-true blank c t.0)

-- a text is all blanks exactly if the count i of its first blanks is its length
pub blanks_passed : (s : List ℕ) (i : ℕ) → i ≤ length s → drop i s ≡ unpadded s → every (eqb blank) s ≡ eqb i (length s)
blanks_passed s i h e =
    let l : length s - i ≡ length (unpadded s) = sym (length-drop i s) ∙ ap length e in
    blanks_left s
    ∙ either (eqb i (length s))
    (λ t. rw (t, eq-eqb (length (unpadded s)) 0 (omega (arith, eqb-true i (length s) t))))
    (λ t. rw (t, ne_eqb (length (unpadded s)) 0 (λ z. eqb-false i (length s) t (omega arith))))

-- a text of digits is not all blanks
pub digits_no_blanks : (s : List ℕ) → 0 < length s → every is_digit s ≡ true → every (eqb blank) s ≡ false
unfolding every
digits_no_blanks [] h e = absurd (omega arith)
digits_no_blanks (c ∷ s) h e = let r = digit_range c (both (is_digit c) (every is_digit s) e).0 in rw (ne_eqb blank c (omega arith))

-- ---- what digits say

pub digits-read : (s : List ℕ) → every is_digit s ≡ true → digits_of s ≡ Some (number_of s)
unfolding digits_of
digits-read s all = rw all

pub digits-unread : (s : List ℕ) → every is_digit s ≡ false → digits_of s ≡ None
unfolding digits_of
digits-unread s other = rw other

-- ---- digits read one after another

-- what the characters s say behind digits that stand for n
unfoldable pub digits_from : ℕ → List ℕ → Option ℕ
digits_from n s = cond (every is_digit s) (Some (number_from n s)) None

pub digits-start : (s : List ℕ) → digits_of s ≡ digits_from 0 s
unfolding digits_of digits_from number_of
digits-start s = refl

-- a digit goes into the number, and another character decides
module _ (text : List ℕ) (i : ℕ) (h : i < length text) (n : ℕ) where
  pub digits_more : is_digit (byte_at text i) ≡ true
      → digits_from n (drop i text) ≡ digits_from (10 * n + (byte_at text i - zero_digit)) (drop (i + 1) text)
  unfolding digits_from every number_from
  digits_more e = rw (add-one, drop-cons text i 0 h, e)

  pub digits_stop : is_digit (byte_at text i) ≡ false → digits_from n (drop i text) ≡ None
  unfolding digits_from every
  digits_stop e = rw (drop-cons text i 0 h, e)

pub digits-end : (text : List ℕ) (i n : ℕ) → length text ≤ i → digits_from n (drop i text) ≡ Some n
unfolding digits_from every number_from
digits-end text i n h = rw (drop_of_length-le text h)
