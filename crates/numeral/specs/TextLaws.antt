-- Laws: demand 2. A text is accepted exactly if it is, blanks aside, the written text of a value of at most 18 digits or, by K4, that text without the zero
-- that is its whole part. Assumes nothing.
use Rattle.std.specs.Prelude.{Err, Ok, ◌≡◌, refl, true, false, List, ◌∷◌, ◌++◌, ◌↔◌, ℕ, ◌^◌, ◌≤◌, ◌<◌, eqb, leb, ltb, ℤ, nat_abs, length, None, Some}
use Rattle.std.proofs.Common.{sym, ap, ◌∙◌, inl, ⊎_elim, arith, lit<, length-append}
use Rattle.std.proofs.Math.Nat.{pow-le-pow_right}
use borrow.Author.Tests.{lt-ltb, le-ltb, ltb-true, ltb-false}
use Rattle.basis.specs.Tests.{either, contra, impossible}
use Rattle.octets.specs.Text.{every, blank, unpadded, zero_digit, decimal_from, decimal}
use Rattle.octets.specs.TextLaws.{unpadded-short}
use Rattle.numeral.specs.Format.{max_digits, format_good, comma}
use Rattle.numeral.specs.Reading.{some}
use Rattle.numeral.specs.Reading.{whole_missing, text_good, value_of, digit_count, number_checks, read_number}
use Rattle.numeral.specs.ReadingLaws.{format-decimals}
use Rattle.refusal.specs.After.{left}
use Rattle.refusal.specs.Checks.{unless}
use Rattle.numeral.specs.Writing.{fraction_text, sign_text, number_text, short_text, written, Fits, Short, TextOf, write_number}
use Rattle.numeral.specs.GrammarLaws.{unsigned, short-small, good_text, good-count, Passes, text_passes, full-whole, short-whole, written-unpadded}
use Rattle.numeral.specs.GrammarLaws.{unpadded-written}
use Rattle.numeral.specs.WritingLaws.{fits-length, refused-width, written-exactly}
use Rattle.numeral.specs.Format.{Number}

-- ---- the reader's answers

-- every text has one of six answers
by_answer : {X : Type 0} (s : List ℕ) (d : ℕ)
    → (read_number s d ≡ Err 6 → X)
    → (read_number s d ≡ (Ok None) → X)
    → (read_number s d ≡ Err 16 → X)
    → (read_number s d ≡ Err 17 → X)
    → (format_good (length s) d ≡ true → text_good s d ≡ true → leb (digit_count s) max_digits ≡ false → read_number s d ≡ Err 18 → X)
    → (format_good (length s) d ≡ true → text_good s d ≡ true → leb (digit_count s) max_digits ≡ true → read_number s d ≡ Ok (Some (value_of s)) → X)
    → X
unfolding read_number number_checks unless
by_answer s d a b c e f g = either (format_good (length s) d)
    (λ p. either (every (eqb blank) s)
    (λ q. b (rw (p, q)))
    (λ q. either (some (eqb comma) s)
    (λ r. c (rw (p, q, r)))
    (λ r. either (text_good s d)
    (λ t. either (leb (digit_count s) max_digits)
    (λ u. g p t u (rw (p, q, r, t, u)))
    (λ u. f p t u (rw (p, q, r, t, u))))
    (λ t. e (rw (p, q, r, t))))))
    (λ p. a (rw p))

-- a text of a value of at most 18 digits, and of more
module _ (s : List ℕ) (d : ℕ) (v : ℤ) (f : format_good (length s) d ≡ true) (t : Passes s d v) where
  count-value : leb (digit_count s) max_digits ≡ ltb (nat_abs v) (10 ^ max_digits)
  count-value = rw (← t.value) (good-count s d t.good (format-decimals (length s) d f))

  read-few : nat_abs v < 10 ^ max_digits → read_number s d ≡ Ok (Some v)
  unfolding read_number number_checks unless
  read-few l = rw (f, t.shown, t.plain, t.good, count-value, lt-ltb (nat_abs v) (10 ^ max_digits) l, t.value)

  read_many : 10 ^ max_digits ≤ nat_abs v → read_number s d ≡ Err 18
  unfolding read_number number_checks unless
  read_many l = rw (f, t.shown, t.plain, t.good, count-value, le-ltb (nat_abs v) (10 ^ max_digits) l)

-- two answers that differ
not_value : {X : Type 0} {r : Number} {n : ℕ} {v : ℤ} → r ≡ Err n → r ≡ Ok (Some v) → X
not_value p q = impossible (cc)

not_empty : {X : Type 0} {r : Number} {v : ℤ} → r ≡ (Ok None) → r ≡ Ok (Some v) → X
not_empty p q = impossible (cc)

not_refused : {X : Type 0} {r : Number} {n : ℕ} → r ≡ (Ok None) → r ≡ Err n → X
not_refused p q = impossible (cc)

not_same : {X : Type 0} {r : Number} {m n : ℕ} → r ≡ Err m → r ≡ Err n → m < n → X
not_same {m = m} {n = n} p q h = let z : m ≡ n = cc in absurd (omega arith)

-- ---- demand 2

-- the accepted texts of a value of at most 18 digits are its written text and, if its whole part is zero and the value isn't, the same without the zero; no
-- other
pub accepted : (s : List ℕ) (d : ℕ) (v : ℤ)
    → (read_number s d ≡ Ok (Some v)) ↔ ((format_good (length s) d ≡ true) × (nat_abs v < 10 ^ max_digits) × TextOf d v (unpadded s))
accepted s d v = (
  (λ h. by_answer s d (λ a. not_value a h) (λ a. not_empty a h) (λ a. not_value a h) (λ a. not_value a h) (λ f t l a. not_value a h)
      (λ f t l a.
      let same : value_of s ≡ v = cc in
      let small : nat_abs (value_of s) < 10 ^ max_digits = ltb-true _ _ (sym (good-count s d t (format-decimals (length s) d f)) ∙ l) in
      (f, rw same at small, rw same at (good_text s d t)))),
  (λ h. read-few s d v h.0 (text_passes s d v h.2) h.1),
)

-- "the same without the zero"
zero-written : (d : ℕ) (v : ℤ) → Short d v → number_text d v ≡ sign_text v ++ (zero_digit ∷ fraction_text d (nat_abs v))
unfolding number_text decimal decimal_from
zero-written d v z = rw z.whole

-- it is refused by 18 exactly if it is the written text of a value of more than 18 digits
pub too_long : (s : List ℕ) (d : ℕ)
    → (read_number s d ≡ Err 18) ↔ ((format_good (length s) d ≡ true) × ((v : ℤ) × (s ≡ written (length s) d v) × (10 ^ max_digits ≤ nat_abs v)))
too_long s d = (
  (λ h. by_answer s d (λ a. not_same a h (omega arith)) (λ a. not_refused a h) (λ a. not_same a h (omega arith)) (λ a. not_same a h (omega arith))
      (λ f t l a.
      let few = format-decimals (length s) d f in
      let large = ltb-false _ _ (sym (good-count s d t few) ∙ l) in
      ⊎_elim
      (λ e. (f, (value_of s, unpadded-written s d (value_of s) e, large)))
      (λ e.
      let small = short-small d (nat_abs (value_of s)) e.0.whole e.0.some in
      let most : 10 ^ d ≤ 10 ^ max_digits = pow-le-pow_right (lit< tt) {i = d} {j = max_digits} (omega arith) in
      absurd (omega arith))
      (good_text s d t))
      (λ f t l a. not_value h a)),
  (λ h.
      let e = ap unpadded h.1.1 ∙ written-unpadded (length s) d h.1.0 in
      read_many s d h.1.0 h.0 (text_passes s d h.1.0 (inl e)) h.1.2),
)

-- "each value that fits has one written text": it has one of the field's width, which is accepted
pub some_text : (width d : ℕ) (v : ℤ) → Fits width d v → (length (written width d v) ≡ width) × (read_number (written width d v) d ≡ Ok (Some v))
some_text width d v f =
    let l = fits-length width d v f in
    (l, (accepted (written width d v) d v).1 (rw l f.format, f.small, inl (written-unpadded width d v)))

-- "reading what was written gives the value"
pub read_back : (s t : List ℕ) (d : ℕ) (v : ℤ) → write_number s d v ≡ left t (Ok tt) → read_number t d ≡ Ok (Some v)
read_back s t d v h =
    let w = (written-exactly s t d v).0 h in
    rw w.1 (some_text (length s) d v w.0).1

-- texts that are the same, blanks aside, have one value
accepted-value : (s : List ℕ) (d : ℕ) (v : ℤ) → read_number s d ≡ Ok (Some v) → value_of s ≡ v
accepted-value s d v h =
    by_answer s d (λ a. not_value a h) (λ a. not_empty a h) (λ a. not_value a h) (λ a. not_value a h) (λ f t l a. not_value a h) (λ f t l a. cc)

pub same-value : (s t : List ℕ) (d : ℕ) (v w : ℤ) → unpadded s ≡ unpadded t → read_number s d ≡ Ok (Some v) → read_number t d ≡ Ok (Some w) → v ≡ w
unfolding value_of
same-value s t d v w e p q = sym (accepted-value s d v p) ∙ rw e (accepted-value t d w q)

-- "an accepted text may differ from the written one": it does exactly if its whole part is missing
whole-there : (s : List ℕ) (d : ℕ) (v : ℤ) → read_number s d ≡ Ok (Some v) → whole_missing (unsigned s) ≡ false → unpadded s ≡ number_text d v
whole-there s d v h w = ⊎_elim (λ e. e) (λ e. contra (short-whole s d v e.0 e.1) w) ((accepted s d v).0 h).2

whole-gone : (s : List ℕ) (d : ℕ) (v : ℤ) → read_number s d ≡ Ok (Some v) → whole_missing (unsigned s) ≡ true → Short d v × (unpadded s ≡ short_text d v)
whole-gone s d v h w = ⊎_elim (λ e. contra w (full-whole s d v e)) (λ e. e) ((accepted s d v).0 h).2

-- so two accepted texts of one value, of any two widths, both with a whole part or both without, are the same, blanks aside
pub same_text : (s t : List ℕ) (d : ℕ) (v : ℤ) → read_number s d ≡ Ok (Some v) → read_number t d ≡ Ok (Some v)
    → whole_missing (unsigned s) ≡ whole_missing (unsigned t) → unpadded s ≡ unpadded t
same_text s t d v p q w = either (whole_missing (unsigned t))
    (λ e. (whole-gone s d v p (w ∙ e)).1 ∙ sym (whole-gone t d v q e).1)
    (λ e. whole-there s d v p (w ∙ e) ∙ sym (whole-there t d v q e))

-- the value of a text with a whole part fits, and is written as that text, in any buffer of that width
pub value-fits : (s : List ℕ) (d : ℕ) (v : ℤ) → read_number s d ≡ Ok (Some v) → whole_missing (unsigned s) ≡ false → Fits (length s) d v
value-fits s d v h w =
    let a = (accepted s d v).0 h in
    let l = ap length (whole-there s d v h w) in
    record { format = a.0; small = a.1; room = omega (arith, unpadded-short s) }

pub write-back : (s t : List ℕ) (d : ℕ) (v : ℤ) → length s ≡ length t → read_number t d ≡ Ok (Some v) → whole_missing (unsigned t) ≡ false
    → write_number s d v ≡ left t (Ok tt)
write-back s t d v l h w =
    (written-exactly s t d v).1 (rw l (value-fits t d v h w), rw l (unpadded-written t d v (whole-there t d v h w)))

-- the value of a text without one is written with its zero if there is a blank for it; otherwise "`-.150` in width 5 is read but can't be written back (19)"
pub zero-back : (s t : List ℕ) (d : ℕ) (v : ℤ) → length s ≡ length t → read_number t d ≡ Ok (Some v) → whole_missing (unsigned t) ≡ true
    → (length (unpadded t) < length t → write_number s d v ≡ left (written (length s) d v) (Ok tt))
    × (length (unpadded t) ≡ length t → write_number s d v ≡ left s (Err 19))
unfolding short_text
zero-back s t d v l h w =
    let a = (accepted t d v).0 h in
    let short = whole-gone t d v h w in
    let size = ap length (zero-written d v short.0) ∙ length-append (sign_text v) _ in
    let dropped = ap length short.1 ∙ length-append (sign_text v) _ in
    let format : format_good (length s) d ≡ true = rw l a.0 in (
      (λ m. (written-exactly s _ d v).1 (record { format = format; small = a.1; room = omega arith }, refl)),
      (λ m. refused-width s d v format a.1 (omega arith)),
    )
