-- Laws: the grammar of numeric text, both ways. A good text is, blanks aside, the written text of its value or, by K4, that text without the zero that is its
-- whole part; and each of the two is good and has that value. Assumes nothing.
use Rattle.std.specs.Prelude.{◌≡◌, refl, Bool, true, false, ◌&&◌, not, List, [], ◌∷◌, ◌++◌, ◌↔◌, ℕ, zero, suc, ◌*◌, ◌-◌, ◌/◌, ◌^◌, ◌≤◌, ◌<◌, ltb, ℤ, pos, negsuc, nat_abs, replicate}
use Rattle.std.proofs.Math.Path.{sym, ap}
use Rattle.std.proofs.Common.{◌∙◌, ⊎_elim, div-lt_iff_lt-mul, arith}
use Rattle.std.proofs.Math.Logic.{inl, inr}
use Rattle.std.proofs.Math.Dec.{eqb, leb}
use Rattle.std.proofs.Math.ListN.{length, length-append}
use borrow.Author.Tests.{le-leb, eqb-true, eqb-false, eq-eqb, ne_eqb, not-true}
use Rattle.basis.specs.Tests.{either, contra, both, join}
use Rattle.octets.specs.Text.{every, blank, unpadded, zero_digit, is_digit, number_of, last_digits, decimal}
use Rattle.octets.specs.TextLaws.{digit_range, unpadded_digit, unpadded_blanks, unpadded-front, blanks_left}
use Rattle.octets.specs.DigitLaws.{ten_pos, decimal-digits, decimal-some, last_digits-digits, length-last_digits, number-last, number_div, last-number}
use Rattle.numeral.specs.Format.{max_decimals, max_digits, comma, minus, point}
use Rattle.numeral.specs.Reading.{some, after, front, has_minus, without_minus, whole_good, fraction_good, whole_part, fraction, without_point, digits}
use Rattle.numeral.specs.Reading.{whole_missing, zero_dropped, whole_accepted, text_good, signed, value_of, digit_count}
use Rattle.numeral.specs.ReadingLaws.{none-whole, zeros-number, count-number}
use Rattle.numeral.specs.Writing.{fraction_text, sign_text, number_text, short_text, written, Short, TextOf}
use Rattle.numeral.specs.DigitLaws.{decimal-good, number-written, digits-back}
use Rattle.numeral.specs.WritingLaws.{length-fraction}

-- ---- a text taken apart: its blanks, its sign, its whole part and its fraction

front-after : (p : ℕ → Bool) (s : List ℕ) → front p s ++ after p s ≡ s
unfolding front after
front-after p [] = refl
front-after p (c ∷ s) = either (p c) (λ e. rw (e, front, after, front-after p s)) (λ e. rw (e, front, after))

nothing : (s : List ℕ) → length s ≡ 0 → s ≡ []
nothing [] e = refl
nothing (c ∷ s) e = absurd (omega arith)

with_minus : (s : List ℕ) → has_minus s ≡ true → s ≡ minus ∷ without_minus s
unfolding has_minus without_minus
with_minus [] e = contra e refl
with_minus (c ∷ s) e = rw (e, without_minus) (ap (λ (x : ℕ). x ∷ s) (eqb-true c minus e))

no_minus : (s : List ℕ) → has_minus s ≡ false → without_minus s ≡ s
unfolding has_minus without_minus
no_minus [] e = refl
no_minus (c ∷ s) e = rw (e, without_minus)

fraction_shape : (d : ℕ) (s : List ℕ) → fraction_good d s ≡ true
    → (every is_digit (without_point s) ≡ true) × (length (without_point s) ≡ d) × ((n : ℕ) → last_digits d n ≡ without_point s → fraction_text d n ≡ s)
unfolding fraction_good without_point every fraction_text
fraction_shape zero [] e = (refl, refl, (λ n l. refl))
fraction_shape zero (c ∷ s) e = contra e (ne_eqb (suc (length s)) 0 (omega arith))
fraction_shape (suc d) [] e = contra e refl
fraction_shape (suc d) (c ∷ s) e =
    let h = both (eqb c point && every is_digit s) (eqb (length s) (suc d)) e in
    let k = both (eqb c point) (every is_digit s) h.0 in
    (k.1, eqb-true (length s) (suc d) h.1, (λ n l. rw (l, eqb-true c point k.0)))

-- ---- a good text is the written text of its value, or that without the zero

signed_abs : (b : Bool) (n : ℕ) → nat_abs (signed b n) ≡ n
unfolding signed
signed_abs false n = refl
signed_abs true zero = refl
signed_abs true (suc n) = refl

abbrev sign_of : Bool → List ℕ
sign_of true = minus ∷ []
sign_of false = []

signed_text : (b : Bool) (n : ℕ) → not (b && eqb n 0) ≡ true → sign_text (signed b n) ≡ sign_of b
unfolding signed sign_text
signed_text false n e = refl
signed_text true zero e = contra e refl
signed_text true (suc n) e = refl

sign_front : (s : List ℕ) → sign_of (has_minus s) ++ without_minus s ≡ s
sign_front s = either (has_minus s) (λ e. rw e (sym (with_minus s e))) (λ e. rw e (no_minus s e))

-- a good text without its sign is its number as it is written
module _ (t : List ℕ) (d : ℕ) (w : whole_good (whole_part t) ≡ true) (f : fraction_good d (fraction t) ≡ true) where
  whole-written : decimal (number_of (digits t) / 10 ^ d) ≡ whole_part t
  unfolding digits
  whole-written = let h = fraction_shape d (fraction t) f in (digits-back (whole_part t) (without_point (fraction t)) d w h.0 h.1).0

  digits_text : decimal (number_of (digits t) / 10 ^ d) ++ fraction_text d (number_of (digits t)) ≡ t
  unfolding digits whole_part fraction
  digits_text =
      let h = fraction_shape d (fraction t) f in
      let b = digits-back (whole_part t) (without_point (fraction t)) d w h.0 h.1 in
      rw (whole-written, h.2 (number_of (digits t)) b.1) (front-after is_digit t)

-- a text whose zero was dropped is the fraction of its number, which is below one and above zero
module _ (t : List ℕ) (d : ℕ) (z : zero_dropped d t ≡ true) (f : fraction_good d (fraction t) ≡ true) where
  dropped_tests : (whole_part t ≡ []) × (every (eqb zero_digit) (digits t) ≡ false)
  unfolding zero_dropped whole_missing
  dropped_tests =
      let tests = both (whole_missing t && leb 1 d) (not (every (eqb zero_digit) (digits t))) z in
      let none = (both (whole_missing t) (leb 1 d) tests.0).0 in
      (nothing (whole_part t) (eqb-true _ _ none), not-true _ tests.1)

  dropped_digits : digits t ≡ without_point (fraction t)
  unfolding digits
  dropped_digits = rw dropped_tests.0

  dropped_text : fraction_text d (number_of (digits t)) ≡ t
  unfolding whole_part fraction number_of
  dropped_text =
      let h = fraction_shape d (fraction t) f in
      let last = last-number 0 (without_point (fraction t)) h.0 in
      rw (dropped_digits, h.2 (number_of (without_point (fraction t))) (rw h.1 at last)) (rw dropped_tests.0 at (front-after is_digit t))

  dropped_below : number_of (digits t) / 10 ^ d ≡ 0
  unfolding number_of
  dropped_below =
      let h = fraction_shape d (fraction t) f in
      rw (dropped_digits, ← h.1) (number_div 0 (without_point (fraction t)) h.0)

  dropped_above : 0 < number_of (digits t)
  dropped_above =
      let h = fraction_shape d (fraction t) f in
      let some-digit = rw dropped_digits at dropped_tests.1 in
      let number = eqb-false (number_of (without_point (fraction t))) 0 (sym (zeros-number (without_point (fraction t)) h.0) ∙ some-digit) in
      rw dropped_digits (omega arith)

-- a text without its blanks and its sign
abbrev pub unsigned : List ℕ → List ℕ
unsigned s = without_minus (unpadded s)

module _ (s : List ℕ) (d : ℕ) (g : text_good s d ≡ true) where
  good-parts : (whole_accepted d (unsigned s) ≡ true) × (fraction_good d (fraction (unsigned s)) ≡ true)
      × (not (has_minus (unpadded s) && eqb (number_of (digits (unsigned s))) 0) ≡ true)
  unfolding text_good
  good-parts =
      let good = whole_accepted d (unsigned s) && fraction_good d (fraction (unsigned s)) in
      let h = both good (not (has_minus (unpadded s) && eqb (number_of (digits (unsigned s))) 0)) g in
      let k = both (whole_accepted d (unsigned s)) (fraction_good d (fraction (unsigned s))) h.0 in
      (k.0, k.1, h.1)

  good_sign : sign_text (value_of s) ++ unsigned s ≡ unpadded s
  unfolding value_of
  good_sign = rw (signed_text (has_minus (unpadded s)) (number_of (digits (unsigned s))) good-parts.2) (sign_front (unpadded s))

  good_abs : nat_abs (value_of s) ≡ number_of (digits (unsigned s))
  unfolding value_of
  good_abs = signed_abs (has_minus (unpadded s)) (number_of (digits (unsigned s)))

  pub good_text : TextOf d (value_of s) (unpadded s)
  unfolding number_text short_text
  good_text =
      let h = good-parts in
      either (whole_good (whole_part (unsigned s)))
      (λ w. inl (sym (rw (good_abs, digits_text (unsigned s) d w h.1) good_sign)))
      (λ w.
      let z = rw w at h.0 in
      inr (
        record { whole = rw good_abs (dropped_below (unsigned s) d z h.1); some = rw good_abs (dropped_above (unsigned s) d z h.1) },
        sym (rw (good_abs, dropped_text (unsigned s) d z h.1) good_sign),
      ))

  pub good-count : d ≤ max_decimals → leb (digit_count s) max_digits ≡ ltb (nat_abs (value_of s)) (10 ^ max_digits)
  unfolding digit_count
  good-count h = let k = good-parts in rw good_abs (count-number d (unsigned s) h (join _ _ k.0 k.1))

-- ---- such a text is good, and its value is the one written

front-every : (p : ℕ → Bool) (w u : List ℕ) → every p w ≡ true → front p u ≡ [] → front p (w ++ u) ≡ w
unfolding every front
front-every p [] u e h = h
front-every p (c ∷ w) u e h =
    let k = both (p c) (every p w) e in
    rw (k.0, front, front-every p w u k.1 h)

after-every : (p : ℕ → Bool) (w u : List ℕ) → every p w ≡ true → after p (w ++ u) ≡ after p u
unfolding every after
after-every p [] u e = refl
after-every p (c ∷ w) u e =
    let k = both (p c) (every p w) e in
    rw (k.0, after, after-every p w u k.1)

-- a digit is neither a blank nor a minus
digits-first : (w u : List ℕ) → every is_digit w ≡ true → 1 ≤ length w
    → (unpadded (w ++ u) ≡ w ++ u) × (has_minus (w ++ u) ≡ false) × (without_minus (w ++ u) ≡ w ++ u)
unfolding every has_minus without_minus
digits-first [] u e l = absurd (omega arith)
digits-first (c ∷ w) u e l =
    let k = both (is_digit c) (every is_digit w) e in
    let b = digit_range c k.0 in
    (unpadded_digit c (w ++ u) k.0, ne_eqb c minus (omega arith), rw (ne_eqb c minus (omega arith), without_minus))

-- nor is a point
point-first : (d n : ℕ) → 1 ≤ d
    → (unpadded (fraction_text d n) ≡ fraction_text d n) × (has_minus (fraction_text d n) ≡ false) × (without_minus (fraction_text d n) ≡ fraction_text d n)
unfolding fraction_text unpadded has_minus without_minus
point-first zero n l = absurd (omega arith)
point-first (suc d) n l = (refl, refl, refl)

-- the sign of v before a text that has neither
sign_unpadded : (v : ℤ) (b : List ℕ) → unpadded b ≡ b → unpadded (sign_text v ++ b) ≡ sign_text v ++ b
unfolding sign_text unpadded
sign_unpadded (pos n) b h = h
sign_unpadded (negsuc n) b h = refl

sign_parts : (v : ℤ) (b : List ℕ) → (has_minus b ≡ false) × (without_minus b ≡ b)
    → (without_minus (sign_text v ++ b) ≡ b) × (signed (has_minus (sign_text v ++ b)) (nat_abs v) ≡ v)
    × (not (has_minus (sign_text v ++ b) && eqb (nat_abs v) 0) ≡ true)
unfolding sign_text without_minus has_minus signed
sign_parts (pos n) b h = (h.1, rw h.0, rw h.0)
sign_parts (negsuc n) b h = (refl, refl, rw (ne_eqb (suc n) 0 (omega arith)))

fraction_stops : (d n : ℕ) → (front is_digit (fraction_text d n) ≡ []) × (after is_digit (fraction_text d n) ≡ fraction_text d n)
unfolding fraction_text front after
fraction_stops zero n = (refl, refl)
fraction_stops (suc d) n = (refl, refl)

fraction-good : (d n : ℕ) → (fraction_good d (fraction_text d n) ≡ true) × (without_point (fraction_text d n) ≡ last_digits d n)
unfolding fraction_text fraction_good without_point last_digits
fraction-good zero n = (refl, refl)
fraction-good (suc d) n = (rw (last_digits-digits (suc d) n, length-last_digits (suc d) n, eq-eqb (suc d) (suc d) refl), refl)

-- the text of a magnitude
module _ (d n : ℕ) where
  abbrev body : List ℕ
  body = decimal (n / 10 ^ d) ++ fraction_text d n

  body-whole : whole_part body ≡ decimal (n / 10 ^ d)
  unfolding whole_part
  body-whole = front-every is_digit _ _ (decimal-digits (n / 10 ^ d)) (fraction_stops d n).0

  body-fraction : fraction body ≡ fraction_text d n
  unfolding fraction
  body-fraction = after-every is_digit _ _ (decimal-digits (n / 10 ^ d)) ∙ (fraction_stops d n).1

  body-number : number_of (digits body) ≡ n
  unfolding digits
  body-number = rw (body-whole, body-fraction, (fraction-good d n).1) (number-written n d)

  body-good : whole_accepted d body && fraction_good d (fraction body) ≡ true
  body-good = rw (body-whole, body-fraction, decimal-good (n / 10 ^ d), (fraction-good d n).0)

-- a text has no comma if its parts have none
some_append : (p : ℕ → Bool) (s t : List ℕ) → some p s ≡ false → some p t ≡ false → some p (s ++ t) ≡ false
unfolding some
some_append p [] t a b = b
some_append p (c ∷ s) t a b = either (p c) (λ e. contra (rw e) a) (λ e. rw e (some_append p s t (rw e at a) b))

blanks_plain : (k : ℕ) → some (eqb comma) (replicate k blank) ≡ false
unfolding some
blanks_plain zero = refl
blanks_plain (suc k) = blanks_plain k

digits-plain : (w : List ℕ) → every is_digit w ≡ true → some (eqb comma) w ≡ false
unfolding every some
digits-plain [] e = refl
digits-plain (c ∷ w) e =
    let k = both (is_digit c) (every is_digit w) e in
    let b = digit_range c k.0 in
    rw (ne_eqb comma c (omega arith)) (digits-plain w k.1)

fraction-plain : (d n : ℕ) → some (eqb comma) (fraction_text d n) ≡ false
unfolding fraction_text some
fraction-plain zero n = refl
fraction-plain (suc d) n = digits-plain (last_digits (suc d) n) (last_digits-digits (suc d) n)

sign_plain : (v : ℤ) → some (eqb comma) (sign_text v) ≡ false
unfolding sign_text some
sign_plain (pos n) = refl
sign_plain (negsuc n) = refl

-- what a text b of the magnitude n has, whether with its whole part or without
record Body (d n : ℕ) (b : List ℕ) : Type 0 where
  no_blank : unpadded b ≡ b
  no_sign : (has_minus b ≡ false) × (without_minus b ≡ b)
  good : whole_accepted d b && fraction_good d (fraction b) ≡ true
  number : number_of (digits b) ≡ n
  plain : some (eqb comma) b ≡ false
  shown : 1 ≤ length b

full_body : (d n : ℕ) → Body d n (body d n)
full_body d n =
    let first = digits-first (decimal (n / 10 ^ d)) (fraction_text d n) (decimal-digits (n / 10 ^ d)) (decimal-some (n / 10 ^ d)) in
    record {
      no_blank = first.0;
      no_sign = (first.1, first.2);
      good = body-good d n;
      number = body-number d n;
      plain = some_append (eqb comma) _ _ (digits-plain _ (decimal-digits (n / 10 ^ d))) (fraction-plain d n);
      shown = omega (arith, decimal-some (n / 10 ^ d), length-append (decimal (n / 10 ^ d)) (fraction_text d n));
    }

-- a value whose whole part is zero has decimals, if it is not zero
some-decimals : (d n : ℕ) → n / 10 ^ d ≡ 0 → 0 < n → 1 ≤ d
some-decimals zero n below above = absurd (omega (arith, below))
some-decimals (suc d) n below above = omega arith

module _ (d n : ℕ) (below : n / 10 ^ d ≡ 0) (above : 0 < n) where
  pub short-small : n < 10 ^ d
  short-small = let small : (n / 10 ^ d < 1) ↔ (n < 1 * 10 ^ d) = div-lt_iff_lt-mul (ten_pos d) in omega (arith, small.0 (omega arith))

  short-digits : digits (fraction_text d n) ≡ last_digits d n
  unfolding digits whole_part fraction
  short-digits = rw ((fraction_stops d n).0, (fraction_stops d n).1, (fraction-good d n).1)

  short-number : number_of (digits (fraction_text d n)) ≡ n
  short-number = rw short-digits (number-last d n short-small)

  short-good : whole_accepted d (fraction_text d n) && fraction_good d (fraction (fraction_text d n)) ≡ true
  unfolding zero_dropped whole_missing whole_part fraction
  short-good =
      let zeros = zeros-number (last_digits d n) (last_digits-digits d n) in
      rw (short-digits, (fraction_stops d n).0, (fraction_stops d n).1, (fraction-good d n).0, zeros, number-last d n short-small, none-whole)
      (rw (le-leb 1 d (some-decimals d n below above), ne_eqb n 0 (omega arith)))

  short-body : Body d n (fraction_text d n)
  short-body =
      let first = point-first d n (some-decimals d n below above) in
      record {
        no_blank = first.0;
        no_sign = (first.1, first.2);
        good = short-good;
        number = short-number;
        plain = fraction-plain d n;
        shown = omega (arith, length-fraction d n (some-decimals d n below above));
      }

-- what a text of the value v has
pub record Passes (s : List ℕ) (d : ℕ) (v : ℤ) : Type 0 where
  pub shown : every (eqb blank) s ≡ false
  pub plain : some (eqb comma) s ≡ false
  pub good : text_good s d ≡ true
  pub value : value_of s ≡ v

-- a text that is, blanks aside, the sign of v and a text b of its magnitude
module _ (s : List ℕ) (d : ℕ) (v : ℤ) (b : List ℕ) (h : Body d (nat_abs v) b) (e : unpadded s ≡ sign_text v ++ b) where
  sign_taken : (unsigned s ≡ b) × (signed (has_minus (unpadded s)) (nat_abs v) ≡ v) × (not (has_minus (unpadded s) && eqb (nat_abs v) 0) ≡ true)
  sign_taken = rw e (sign_parts v b h.no_sign)

  body-passes : Passes s d v
  unfolding text_good value_of
  body-passes =
      let sign = sign_taken in
      let blanks = blanks_plain (length s - length (sign_text v ++ b)) in
      record {
        shown = rw (blanks_left s, e) (ne_eqb (length (sign_text v ++ b)) 0 (omega (arith, h.shown, length-append (sign_text v) b)));
        plain = ap (some (eqb comma)) (unpadded-front s)
            ∙ rw e (some_append (eqb comma) _ _ blanks (some_append (eqb comma) _ _ (sign_plain v) h.plain));
        good = rw (sign.0, h.good, h.number) sign.2;
        value = rw (sign.0, h.number) sign.1;
      }

-- each text of a value is good and has that value
module _ (s : List ℕ) (d : ℕ) (v : ℤ) where
  full-passes : unpadded s ≡ number_text d v → Passes s d v
  unfolding number_text
  full-passes e = body-passes s d v _ (full_body d (nat_abs v)) e

  short-passes : Short d v → unpadded s ≡ short_text d v → Passes s d v
  unfolding short_text
  short-passes z e = body-passes s d v _ (short-body d (nat_abs v) z.whole z.some) e

  pub text_passes : TextOf d v (unpadded s) → Passes s d v
  text_passes t = ⊎_elim full-passes (λ e. short-passes e.0 e.1) t

  -- the two are told apart by their whole part
  pub full-whole : unpadded s ≡ number_text d v → whole_missing (unsigned s) ≡ false
  unfolding number_text whole_missing
  full-whole e =
      let some-digit = decimal-some (nat_abs v / 10 ^ d) in
      rw ((sign_taken s d v _ (full_body d (nat_abs v)) e).0, body-whole d (nat_abs v)) (ne_eqb (length (decimal (nat_abs v / 10 ^ d))) 0 (omega arith))

  pub short-whole : Short d v → unpadded s ≡ short_text d v → whole_missing (unsigned s) ≡ true
  unfolding short_text whole_missing whole_part
  short-whole z e = rw ((sign_taken s d v _ (short-body d (nat_abs v) z.whole z.some) e).0, (fraction_stops d (nat_abs v)).0)

-- the written text without its blanks, and a text that is written but for its blanks
pub written-unpadded : (width d : ℕ) (v : ℤ) → unpadded (written width d v) ≡ number_text d v
unfolding written number_text
written-unpadded width d v =
    unpadded_blanks (width - length (number_text d v)) (number_text d v) ∙ sign_unpadded v (body d (nat_abs v)) (full_body d (nat_abs v)).no_blank

pub unpadded-written : (s : List ℕ) (d : ℕ) (v : ℤ) → unpadded s ≡ number_text d v → s ≡ written (length s) d v
unfolding written
unpadded-written s d v e = rw (← e) (unpadded-front s)
