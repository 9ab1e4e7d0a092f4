-- Laws: the parts of a numeric text, the count of its digits shows in their number, and when 6 and 16 are given. Assumes nothing.
use Rattle.std.specs.Prelude.{ℕ, zero, suc, ◌+◌, ◌*◌, ◌-◌, ◌^◌, ◌≤◌, ◌<◌, ◌≡◌, refl, Bool, true, false, ◌&&◌, ◌||◌, List, [], ◌∷◌, ◌++◌, ◌↔◌, ltb, Err, None, Ok, Some}
use Rattle.std.proofs.Common.{sym, ◌∙◌, zero-add, arith, lit<}
use Rattle.std.proofs.Math.Bool.{not, and-true, and-false, and_assoc, or-false}
use Rattle.std.proofs.Math.Nat.{pow-le-pow_right, le_trans}
use Rattle.std.proofs.Math.Dec.{eqb, leb, eqb-suc-zero}
use Rattle.std.proofs.Math.ListN.{length, length-append}
use borrow.Author.Tests.{leb-true, leb-false, eqb-true, eqb-false, ne_eqb, le-leb, lt-ltb, le-ltb}
use Rattle.basis.specs.Tests.{either, contra, both, join}
use Rattle.octets.specs.Text.{every, blank, zero_digit, is_digit, number_from, number_of}
use Rattle.octets.specs.TextLaws.{digit_range, every_append}
use Rattle.octets.specs.DigitLaws.{ten_pos, number-least, number_bound}
use Rattle.refusal.specs.Checks.{unless}
use Rattle.numeral.specs.Format.{format_good, max_width, max_decimals, max_digits, comma, point}
use Rattle.numeral.specs.Reading.{some, after, front, whole_good, fraction_good, whole_part, fraction, without_point, digits, text_good, value_of, digit_count}
use Rattle.numeral.specs.Reading.{whole_missing, zero_dropped, whole_accepted, number_checks, read_number}

-- a good format has at most 15 decimals
pub format-decimals : (width d : ℕ) → format_good width d ≡ true → d ≤ max_decimals
unfolding format_good
format-decimals width d e =
    let parts = both (leb 1 width && leb width max_width) (eqb d 0 || leb 1 d && leb d max_decimals && leb (d + 2) width) e in
    either (eqb d 0)
    (λ f. omega (arith, eqb-true))
    (λ f.
    let tests = both (leb 1 d && leb d max_decimals) (leb (d + 2) width) (rw f at parts.1) in
    leb-true _ _ (both (leb 1 d) (leb d max_decimals) tests.0).1)

-- the first character of a text without a comma is none, and behind it is none
pub no_comma : (c : ℕ) (s : List ℕ) → some (eqb comma) (c ∷ s) ≡ false → (eqb comma c ≡ false) × (some (eqb comma) s ≡ false)
unfolding some
no_comma c s e = either (eqb comma c) (λ f. contra (rw f) e) (λ f. (f, rw f at e))

-- a text's front goes on at a character that passes the test, and ends at one that does not
module _ (p : ℕ → Bool) (c : ℕ) (s : List ℕ) where
  pub front-more : p c ≡ true → front p (c ∷ s) ≡ c ∷ front p s
  unfolding front
  front-more e = rw (e, front)

  pub after_more : p c ≡ true → after p (c ∷ s) ≡ after p s
  unfolding after
  after_more e = rw (e, after)

  pub front_ends : p c ≡ false → front p (c ∷ s) ≡ []
  unfolding front
  front_ends e = rw (e, front)

  pub after-ends : p c ≡ false → after p (c ∷ s) ≡ c ∷ s
  unfolding after
  after-ends e = rw (e, after)

pub every_front : (p : ℕ → Bool) (s : List ℕ) → every p (front p s) ≡ true
unfolding every front
every_front p [] = refl
every_front p (c ∷ s) = either (p c)
    (λ e. rw (front-more p c s e) (join _ _ e (every_front p s)))
    (λ e. rw (front_ends p c s e))

-- a whole part has a digit
pub none-whole : whole_good [] ≡ false
unfolding whole_good
none-whole = refl

-- a zero is a whole part by itself, and needless before another digit
pub zero-whole : whole_good (zero_digit ∷ []) ≡ true
unfolding whole_good every
zero-whole = refl

pub zero_needless : (c : ℕ) (w : List ℕ) → whole_good (zero_digit ∷ c ∷ w) ≡ false
unfolding whole_good
zero_needless c w = rw (eqb-suc-zero (length w)) (and-false (every is_digit (zero_digit ∷ c ∷ w)))

-- any digits may follow a first digit that is no zero
pub digits-whole : (c : ℕ) (w : List ℕ) → is_digit c ≡ true → eqb c zero_digit ≡ false → every is_digit w ≡ true → whole_good (c ∷ w) ≡ true
unfolding whole_good every
digits-whole c w e f g = rw (e, f, g)

-- what follows the whole part: nothing, or a point and the digits, each by one test for every number of decimals
pub fraction-empty : (d : ℕ) → fraction_good d [] ≡ eqb d 0
unfolding fraction_good
fraction-empty zero = refl
fraction-empty (suc d) = sym (eqb-suc-zero d)

pub fraction-point : (d c : ℕ) (s : List ℕ) → fraction_good d (c ∷ s) ≡ eqb c point && leb 1 d && (every is_digit s && eqb (length s) d)
unfolding fraction_good
fraction-point zero c s = rw (eqb-suc-zero (length s), and-false (eqb c point))
fraction-point (suc d) c s = rw (le-leb 1 (suc d) (omega arith), and-true (eqb c point)) (and_assoc (eqb c point) (every is_digit s) (eqb (length s) (suc d)))

fraction-digits : (d : ℕ) (s : List ℕ) → fraction_good d s ≡ true → (every is_digit (without_point s) ≡ true) × (length (without_point s) ≤ d)
unfolding without_point every
fraction-digits d [] e = (refl, omega arith)
fraction-digits d (c ∷ s) e =
    let parts = both (eqb c point && leb 1 d) (every is_digit s && eqb (length s) d) (rw (fraction-point d c s) at e) in
    let tests = both (every is_digit s) (eqb (length s) d) parts.1 in
    (tests.0, omega (arith, eqb-true))

-- a whole part c ∷ w without needless leading zero, and the digits f behind the point
module _ (c : ℕ) (w f : List ℕ) (whole : whole_good (c ∷ w) ≡ true) where
  whole-most : every is_digit f ≡ true → number_of (c ∷ w ++ f) < 10 ^ length (c ∷ w ++ f)
  unfolding whole_good
  whole-most e =
      let good = (both (every is_digit (c ∷ w)) _ whole).0 in
      number_bound (c ∷ w ++ f) (every_append is_digit (c ∷ w) f ∙ join _ _ good e)

  whole-least : length f ≤ max_decimals → max_digits < length (c ∷ w ++ f) → 10 ^ max_digits ≤ number_of (c ∷ w ++ f)
  unfolding whole_good number_of number_from every
  whole-least few many =
      let parts = both (every is_digit (c ∷ w)) (not (eqb c zero_digit) || eqb (length w) 0) whole in
      let range = digit_range c (both (is_digit c) (every is_digit w) parts.0).0 in
      either (eqb c zero_digit)
      (λ e.
      let lone : length w ≡ 0 = eqb-true _ _ (rw e at parts.1) in
      omega (arith, length-append w f))
      (λ e.
      let first = eqb-false c zero_digit e in
      let least = rw (zero-add (length (w ++ f))) at (number-least (w ++ f) 0 (10 * 0 + (c - zero_digit)) (omega arith)) in
      le_trans (pow-le-pow_right (lit< tt) {i = max_digits} {j = length (w ++ f)} (omega arith)) least)

-- digits are all zeros exactly if their number is zero
pub zeros-number : (s : List ℕ) → every is_digit s ≡ true → every (eqb zero_digit) s ≡ eqb (number_of s) 0
unfolding every number_of number_from
zeros-number [] e = refl
zeros-number (c ∷ s) e =
    let parts = both (is_digit c) (every is_digit s) e in
    let range = digit_range c parts.0 in
    either (eqb zero_digit c)
    (λ f. let same : c ≡ zero_digit = sym (eqb-true zero_digit c f) in rw same (zeros-number s parts.1))
    (λ f.
    let first = eqb-false zero_digit c f in
    let least = number-least s 0 (10 * 0 + (c - zero_digit)) (omega arith) in
    rw f (sym (ne_eqb (number_of (c ∷ s)) 0 (omega (arith, least, ten_pos (0 + length s))))))

-- so a good text has at most 18 digits exactly if their number is below 10 to the 18
count_shows : (count n : ℕ) → n < 10 ^ count → (max_digits < count → 10 ^ max_digits ≤ n) → leb count max_digits ≡ ltb n (10 ^ max_digits)
count_shows count n most least = either (leb count max_digits)
    (λ e. rw e (sym (lt-ltb n _ (le_trans most (pow-le-pow_right (lit< tt) (leb-true count max_digits e))))))
    (λ e. rw e (sym (le-ltb n _ (least (leb-false count max_digits e)))))

-- a text that begins with a digit has dropped no zero
pub digit_first : (d c : ℕ) (s : List ℕ) → is_digit c ≡ true → whole_accepted d (c ∷ s) ≡ whole_good (whole_part (c ∷ s))
unfolding zero_dropped whole_missing whole_part
digit_first d c s h = rw (front-more is_digit c s h, eqb-suc-zero (length (front is_digit s))) (or-false (whole_good (c ∷ front is_digit s)))

-- a text that begins with no digit: all its digits stand behind its first character, which is a point if the text is good
module _ (c : ℕ) (s : List ℕ) (h : is_digit c ≡ false) where
  pub missing_digits : digits (c ∷ s) ≡ s
  unfolding digits whole_part fraction without_point
  missing_digits = rw (front_ends is_digit c s h, after-ends is_digit c s h)

  missing_fraction : fraction (c ∷ s) ≡ c ∷ s
  unfolding fraction
  missing_fraction = after-ends is_digit c s h

  missing_whole : whole_part (c ∷ s) ≡ []
  unfolding whole_part
  missing_whole = front_ends is_digit c s h

  pub missing_good : (d : ℕ) → whole_accepted d (c ∷ s) && fraction_good d (fraction (c ∷ s))
      ≡ eqb c point && leb 1 d && (not (every (eqb zero_digit) s) && (every is_digit s && eqb (length s) d))
  unfolding zero_dropped whole_missing
  missing_good d =
      rw (missing_digits, missing_fraction, missing_whole, none-whole, fraction-point d c s)
      (either (eqb c point && leb 1 d)
      (λ e. rw (e, (both (eqb c point) (leb 1 d) e).1))
      (λ e. rw e (and-false (leb 1 d && not (every (eqb zero_digit) s)))))

pub count-number : (d : ℕ) (s : List ℕ) → d ≤ max_decimals → whole_accepted d s && fraction_good d (fraction s) ≡ true
    → leb (length (digits s)) max_digits ≡ ltb (number_of (digits s)) (10 ^ max_digits)
unfolding whole_part fraction digits front after without_point number_of number_from
count-number d [] h e = refl
count-number d (c ∷ s) h e = either (is_digit c)
    (λ f.
    let go_on = front-more is_digit c s f in
    let skip = after_more is_digit c s f in
    let parts = both (whole_good (c ∷ front is_digit s)) (fraction_good d (after is_digit s)) (rw (digit_first d c s f, go_on, skip) at e) in
    let whole = parts.0 in
    let rest = fraction-digits d (after is_digit s) parts.1 in
    rw (go_on, skip)
    (count_shows _ _ (whole-most c (front is_digit s) _ whole rest.0) (whole-least c (front is_digit s) _ whole (omega arith))))
    (λ f.
    let parts = both (whole_accepted d (c ∷ s)) (fraction_good d (c ∷ s)) (rw (missing_fraction c s f) at e) in
    let rest = fraction-digits d (c ∷ s) parts.1 in
    rw (missing_digits c s f) (count_shows _ _ (number_bound s rest.0) (λ many. absurd (omega (arith, rest.1)))))

-- 6 comes before all else
pub refused_6 : (s : List ℕ) (d : ℕ) → format_good (length s) d ≡ false → read_number s d ≡ Err 6
unfolding read_number unless
refused_6 s d e = rw e

-- 16 is given exactly if a text of a good format has a comma
comma_no_blank : (s : List ℕ) → some (eqb comma) s ≡ true → every (eqb blank) s ≡ false
unfolding some every
comma_no_blank [] e = contra e refl
comma_no_blank (c ∷ s) e = either (eqb blank c)
    (λ f.
    let same : c ≡ blank = sym (eqb-true blank c f) in
    rw f (comma_no_blank s (rw same at e)))
    (λ f. rw f)

only_16 : (s : List ℕ) (d : ℕ) → format_good (length s) d ≡ true → read_number s d ≡ Err 16 → some (eqb comma) s ≡ true
unfolding read_number number_checks unless
only_16 s d e h = either (some (eqb comma) s) (λ g. g) (λ g. either (every (eqb blank) s)
    (λ f. let r : read_number s d ≡ (Ok None) = rw (e, f) in cc)
    (λ f. either (text_good s d)
    (λ t. either (leb (digit_count s) max_digits)
    (λ l. let r : read_number s d ≡ Ok (Some (value_of s)) = rw (e, f, g, t, l) in cc)
    (λ l. let r : read_number s d ≡ Err 18 = rw (e, f, g, t, l) in cc))
    (λ t. let r : read_number s d ≡ Err 17 = rw (e, f, g, t) in cc)))

pub refused_16 : (s : List ℕ) (d : ℕ) → (read_number s d ≡ Err 16) ↔ ((format_good (length s) d ≡ true) × (some (eqb comma) s ≡ true))
unfolding read_number number_checks unless
refused_16 s d = (
  λ h. either (format_good (length s) d) (λ e. (e, only_16 s d e h)) (λ e. let r = refused_6 s d e in (cc, cc)),
  λ e. rw (e.0, comma_no_blank s e.1, e.1),
)
