-- Laws: the reader's states end in what the text means (`scan_means`). Each law `..-means` says, by the rules of Reading.antt, what a text means whose
-- rest s the reader has yet to take from a state. Assumes nothing.
use Rattle.std.specs.Prelude.{◌≡◌, Bool, ◌&&◌, not, eqb, ltb, length, fold, get_or, drop, Err, None, Ok, Some}
use Prim.Native.Nat.{ℕ, zero, suc, ◌+◌, ◌*◌, ◌-◌, ◌^◌, min}
use Rattle.std.proofs.Math.Path.{refl, sym}
use Rattle.std.proofs.Common.{ap, ◌∙◌, add-one, arith, drop_of_length-le, drop-cons, ◌<◌, ◌≤◌}
use Rattle.std.proofs.Math.Bool.{true, false, and-false}
use mathlib.Core.List.{List, [], ◌∷◌}
use Rattle.std.proofs.Math.Dec.{leb, eqb-suc-zero, eqb-zero-suc, eqb-suc-suc}
use borrow.Author.Tests.{ltb-true, ltb-false, eqb-true, le-leb, le-ltb, ne_eqb}
use Rattle.basis.specs.Tests.{either, contra, both}
use Rattle.octets.specs.Text.{every, blank, unpadded, zero_digit, is_digit, number_from, number_of}
use Rattle.octets.specs.TextLaws.{digit_range}
use Rattle.refusal.specs.Checks.{unless}
use Rattle.numeral.specs.Format.{format_good, max_digits, comma, minus, point}
use Rattle.numeral.specs.Reading.{some, after, front, has_minus, without_minus, whole_good, fraction_good, whole_part, fraction, without_point, digits}
use Rattle.numeral.specs.Reading.{whole_missing, zero_dropped, whole_accepted, text_good, value_of, digit_count, number_checks, read_number, signed}
use Rattle.numeral.specs.ReadingLaws.{format-decimals, no_comma, front-more, front_ends, after_more, after-ends, every_front, zero-whole}
use Rattle.numeral.specs.ReadingLaws.{zero_needless, digits-whole, fraction-empty, fraction-point, digit_first, missing_digits, missing_good}
use Rattle.numeral.specs.ReadingLaws.{count-number}
use Rattle.numeral_scan.specs.Scan.{initial, whole_end, with_digit, next_place, next_zero, next_value, step_in, step, scan, settled, meaning}
use Rattle.numeral.specs.Format.{Number}
use Rattle.numeral_scan.specs.declared.Reader.{Reader}
use Rattle.numeral_scan.specs.declared.Phase.{Phase}
use Rattle.numeral_scan.specs.declared.Phase.TheVariants as phase

-- the scanned value and the number of the digits agree: they are equal, or both have more than 18 digits
abbrev Agree : ℕ → ℕ → Type 0
Agree v m = min v (10 ^ max_digits) ≡ min m (10 ^ max_digits)

agree_next : (v m c : ℕ) → Agree v m → Agree (next_value v c) (10 * m + (c - zero_digit))
unfolding next_value
agree_next v m c a = either (ltb v (10 ^ max_digits))
    (λ p. let small = ltb-true v (10 ^ max_digits) p in rw p (omega arith))
    (λ p. let large = ltb-false v (10 ^ max_digits) p in rw p (omega arith))

-- numbers that agree settle a text alike
agree_settled : (g n : Bool) (v m : ℕ) → Agree v m → settled g n v ≡ settled g n m
unfolding settled
agree_settled g n v m a = either (ltb v (10 ^ max_digits))
    (λ p. let small = ltb-true v (10 ^ max_digits) p in
    let same : v ≡ m = omega arith in rw same)
    (λ p. let large = ltb-false v (10 ^ max_digits) p in
    rw (ne_eqb v 0 (omega arith), ne_eqb m 0 (omega arith), p, le-ltb m (10 ^ max_digits) (omega arith)))

-- the state after a character, by the phase
pub step_in_lem : {p : Phase} (r : Reader) (c : ℕ) → r.phase ≡ p → step r c ≡ step_in p r c
unfolding step
step_in_lem r c e = ap (λ q. step_in q r c) e

-- the state after the first character goes on with the others
scan-to : {q : Reader} (r : Reader) (c : ℕ) (s : List ℕ) → step r c ≡ q → scan r (c ∷ s) ≡ scan q s
unfolding scan
scan-to r c s e = rw e

-- a digit among the whole part, or behind the point where one is to come, goes into the number
pub whole_digit : (r : Reader) (c : ℕ) → r.phase ≡ phase.Whole → is_digit c ≡ true → step r c ≡ with_digit r phase.Whole c
whole_digit r c e f = step_in_lem r c e ∙ rw f

pub fraction_digit : (r : Reader) (left c : ℕ) → r.phase ≡ phase.Fraction left → 1 ≤ left → is_digit c ≡ true
    → step r c ≡ with_digit r (phase.Fraction (left - 1)) c
fraction_digit r left c e h f = step_in_lem r c e ∙ rw (f, le-leb 1 left h)

-- the characters are taken one after another, from a place on
module _ (r : Reader) (s : List ℕ) (i : ℕ) where
  pub scan_next : i < length s → scan r (drop i s) ≡ scan (step r (get_or s i 0)) (drop (i + 1) s)
  unfolding scan
  scan_next h = rw (drop-cons s i 0 h, add-one)

  pub scan_end : length s ≤ i → scan r (drop i s) ≡ r
  unfolding scan
  scan_end h = rw (drop_of_length-le s h)

-- the characters taken one after another
pub scan_fold : (r : Reader) (s : List ℕ) → scan r s ≡ fold step r s
unfolding scan
scan_fold r [] = refl
scan_fold r (c ∷ s) = scan_fold (step r c) s

-- a comma ends in 16, whatever comes before and after it
comma-taken : (p : Phase) (r : Reader) → (step_in p r comma).phase ≡ phase.Comma
comma-taken phase.Blank r = refl
comma-taken phase.Minus r = refl
comma-taken phase.Zero r = refl
comma-taken phase.Whole r = refl
comma-taken (phase.Fraction left) r = refl
comma-taken (phase.Dropped left) r = refl
comma-taken phase.Comma r = refl
comma-taken phase.Bad r = refl

comma-stays : (s : List ℕ) (r : Reader) → r.phase ≡ phase.Comma → meaning (scan r s) ≡ Err 16
unfolding scan step meaning
comma-stays [] r e = rw e
comma-stays (c ∷ s) r e = comma-stays s (step r c) (rw e)

comma_means : (s : List ℕ) (r : Reader) → some (eqb comma) s ≡ true → meaning (scan r s) ≡ Err 16
unfolding scan step some
comma_means [] r e = contra e refl
comma_means (c ∷ s) r e = either (eqb comma c)
    (λ f. let same : c ≡ comma = sym (eqb-true comma c f) in rw same (comma-stays s (step r comma) (comma-taken r.phase r)))
    (λ f. comma_means s (step r c) (rw f at e))

-- without a comma, a bad text ends in 17
bad-stays : (s : List ℕ) (r : Reader) → r.phase ≡ phase.Bad → some (eqb comma) s ≡ false → meaning (scan r s) ≡ Err 17
unfolding scan step meaning
bad-stays [] r e f = rw e
bad-stays (c ∷ s) r e f =
    let clear = no_comma c s f in
    bad-stays s (step r c) (rw (e, clear.0)) clear.1

bad_means : (r : Reader) (c : ℕ) (s : List ℕ) (good n : Bool) (m : ℕ) → (step r c).phase ≡ phase.Bad → some (eqb comma) s ≡ false → good ≡ false
    → meaning (scan r (c ∷ s)) ≡ settled good n m
unfolding scan settled
bad_means r c s good n m e f g = rw g (bad-stays s (step r c) e f)

-- an incomplete text is 17
incomplete : (n : Bool) (m : ℕ) → Err 17 ≡ settled false n m
unfolding settled
incomplete n m = refl

-- a digit is no point
no_point : (c : ℕ) → is_digit c ≡ true → eqb c point ≡ false
no_point c e = let range = digit_range c e in ne_eqb c point (omega arith)

module _ (d : ℕ) where
  abbrev state : Phase → Bool → ℕ → Reader
  state p n v = record { decimals = d; phase = p; negative = n; value = v }

  -- behind the point, with `left` digits to come
  next_place_lem : (left : ℕ) → next_place (suc left) ≡ phase.Fraction left
  next_place_lem left =
      let one : suc left - 1 ≡ left = omega arith in
      rw (le-leb 1 (suc left) (omega arith), one)

  fraction_means : (s : List ℕ) (left : ℕ) (n : Bool) (v m : ℕ) → Agree v m → some (eqb comma) s ≡ false
      → meaning (scan (state (phase.Fraction left) n v) s) ≡ settled (every is_digit s && eqb (length s) left) n (number_from m s)
  unfolding scan step meaning every number_from
  fraction_means [] zero n v m a e = agree_settled true n v m a
  fraction_means [] (suc left) n v m a e = rw (eqb-suc-zero left, eqb-zero-suc left) (agree_settled false n v m a)
  fraction_means (c ∷ s) zero n v m a e =
      let clear = no_comma c s e in
      let here = state (phase.Fraction 0) n v in
      let past : (step here c).phase ≡ phase.Bad = either (is_digit c) (λ f. rw f) (λ f. rw (f, clear.0)) in
      bad_means here c s _ n _ past clear.1 (rw (eqb-suc-zero (length s)) (and-false (every is_digit (c ∷ s))))
  fraction_means (c ∷ s) (suc left) n v m a e =
      let clear = no_comma c s e in
      let here = state (phase.Fraction (suc left)) n v in
      either (is_digit c)
      (λ f.
      let next : step here c ≡ state (phase.Fraction left) n (next_value v c) = rw (f, next_place_lem left) in
      rw (scan-to here c s next, f, eqb-suc-suc (length s) left)
      (fraction_means s left n (next_value v c) (10 * m + (c - zero_digit)) (agree_next v m c a) clear.1))
      (λ f. bad_means here c s _ n _ (rw (f, clear.0)) clear.1 (rw f))

  -- behind a point without a whole part, with zeros alone so far and `left` digits to come
  next-zero : (left : ℕ) → next_zero (suc left) ≡ phase.Dropped left
  next-zero left =
      let one : suc left - 1 ≡ left = omega arith in
      rw (le-leb 1 (suc left) (omega arith), one)

  dropped_means : (s : List ℕ) (left : ℕ) (n : Bool) → some (eqb comma) s ≡ false
      → meaning (scan (state (phase.Dropped left) n 0) s)
      ≡ settled (not (every (eqb zero_digit) s) && (every is_digit s && eqb (length s) left)) n (number_of s)
  unfolding scan step meaning every number_of number_from
  dropped_means [] left n e = incomplete n 0
  dropped_means (c ∷ s) zero n e =
      let clear = no_comma c s e in
      let here = state (phase.Dropped 0) n 0 in
      let past : (step here c).phase ≡ phase.Bad =
      either (eqb zero_digit c) (λ f. rw f) (λ f. either (is_digit c) (λ g. rw (f, g)) (λ g. rw (f, g, clear.0))) in
      bad_means here c s _ n _ past clear.1
      (rw (eqb-suc-zero (length s), and-false (every is_digit (c ∷ s))) (and-false (not (every (eqb zero_digit) (c ∷ s)))))
  dropped_means (c ∷ s) (suc left) n e =
      let here = state (phase.Dropped (suc left)) n 0 in
      either (eqb zero_digit c)
      (λ f.
      let same : c ≡ zero_digit = sym (eqb-true zero_digit c f) in
      let next : step here zero_digit ≡ state (phase.Dropped left) n 0 = rw (next-zero left) in
      rw (same, scan-to here zero_digit s next, eqb-suc-suc (length s) left) (dropped_means s left n (no_comma c s e).1))
      (λ f.
      let next : step here c ≡ step (state (phase.Fraction (suc left)) n 0) c = rw f in
      rw (scan-to here c s next, f) (fraction_means (c ∷ s) (suc left) n 0 0 refl e))

  -- behind the whole part
  end_means : (p : Phase) (n : Bool) (v m c : ℕ) (s : List ℕ) → Agree v m → some (eqb comma) (c ∷ s) ≡ false
      → step (state p n v) c ≡ state (whole_end d c) n v
      → meaning (scan (state p n v) (c ∷ s)) ≡ settled (fraction_good d (c ∷ s)) n (number_from m s)
  unfolding scan
  end_means p n v m c s a e g =
      let clear = no_comma c s e in
      either (eqb c point && leb 1 d)
      (λ h. rw (g, fraction-point d c s, h) (fraction_means s d n v m a clear.1))
      (λ h. bad_means (state p n v) c s _ n _ (rw (g, h, clear.0)) clear.1 (rw (fraction-point d c s, h)))

  -- among the digits of a whole part whose first is no zero
  whole_means : (s : List ℕ) (n : Bool) (v m : ℕ) → Agree v m → some (eqb comma) s ≡ false
      → meaning (scan (state phase.Whole n v) s) ≡ settled (fraction_good d (fraction s)) n (number_from m (digits s))
  unfolding scan step meaning after front fraction whole_part without_point digits number_from
  whole_means [] n v m a e = rw (fraction-empty d) (agree_settled (eqb d 0) n v m a)
  whole_means (c ∷ s) n v m a e = either (is_digit c)
      (λ f.
      let next : step (state phase.Whole n v) c ≡ state phase.Whole n (next_value v c) = rw f in
      rw (scan-to (state phase.Whole n v) c s next, front-more is_digit c s f, after_more is_digit c s f)
      (whole_means s n (next_value v c) (10 * m + (c - zero_digit)) (agree_next v m c a) (no_comma c s e).1))
      (λ f. rw (front_ends is_digit c s f, after-ends is_digit c s f) (end_means phase.Whole n v m c s a e (rw f)))

  -- after a zero, which is a whole part only by itself
  zero_means : (s : List ℕ) (n : Bool) → some (eqb comma) s ≡ false
      → meaning (scan (state phase.Zero n 0) s) ≡ settled (whole_good (zero_digit ∷ whole_part s) && fraction_good d (fraction s)) n (number_of (digits s))
  unfolding scan step meaning after front fraction whole_part without_point digits number_of number_from
  zero_means [] n e = rw (zero-whole, fraction-empty d)
  zero_means (c ∷ s) n e =
      let clear = no_comma c s e in
      either (is_digit c)
      (λ f. bad_means (state phase.Zero n 0) c s _ n _ (rw (no_point c f, clear.0)) clear.1
      (rw (front-more is_digit c s f, zero_needless c (front is_digit s))))
      (λ f. rw (front_ends is_digit c s f, after-ends is_digit c s f, zero-whole) (end_means phase.Zero n 0 0 c s refl e refl))

  -- what a text means that begins with its whole part
  abbrev meant : Bool → List ℕ → Number
  meant n s = settled (whole_accepted d s && fraction_good d (fraction s)) n (number_of (digits s))

  nothing_means : (n : Bool) → Err 17 ≡ meant n []
  unfolding front after whole_part fraction without_point digits whole_good zero_dropped every
  nothing_means n = rw (and-false (whole_missing [] && leb 1 d)) (incomplete n _)

  unsigned_means : (s : List ℕ) (n : Bool) → some (eqb comma) s ≡ false → meaning (scan (state phase.Minus n 0) s) ≡ meant n s
  unfolding scan step meaning next_value fraction whole_part digits number_of number_from
  unsigned_means [] n e = nothing_means n
  unsigned_means (c ∷ s) n e =
      let clear = no_comma c s e in
      let here = state phase.Minus n 0 in
      either (is_digit c)
      (λ f. rw (digit_first d c s f, front-more is_digit c s f, after_more is_digit c s f) (either (eqb c zero_digit)
      (λ g.
      let same : c ≡ zero_digit = eqb-true c zero_digit g in
      rw (same, scan-to here zero_digit s refl) (zero_means s n clear.1))
      (λ g.
      let next : step here c ≡ state phase.Whole n (next_value 0 c) = rw (f, g) in
      rw (scan-to here c s next, digits-whole c (front is_digit s) f g (every_front is_digit s))
      (whole_means s n (next_value 0 c) (10 * 0 + (c - zero_digit)) (agree_next 0 0 c refl) clear.1))))
      (λ f. rw (missing_good c s f d, missing_digits c s f) (either (eqb c point && leb 1 d)
      (λ g.
      let next : step here c ≡ state (phase.Dropped d) n 0 = rw (f, g) in
      rw (scan-to here c s next, g) (dropped_means s d n clear.1))
      (λ g. bad_means here c s _ n _ (rw (f, g, clear.0)) clear.1 (rw g))))

  -- an optional minus: the first character that is no blank
  sign_means : (c : ℕ) (s : List ℕ) → eqb blank c ≡ false → some (eqb comma) (c ∷ s) ≡ false
      → meaning (scan (initial d) (c ∷ s)) ≡ meant (has_minus (c ∷ s)) (without_minus (c ∷ s))
  unfolding scan step has_minus without_minus
  sign_means c s e f = either (eqb c minus)
      (λ g. rw (e, g, without_minus) (unsigned_means s true (no_comma c s f).1))
      (λ g. rw (e, g, without_minus) (unsigned_means (c ∷ s) false f))

  -- blanks on the left, and nothing but blanks
  scan-blank : (c : ℕ) (s : List ℕ) → eqb blank c ≡ true → scan (initial d) (c ∷ s) ≡ scan (initial d) s
  unfolding scan step
  scan-blank c s e = rw e

  blanks_mean : (s : List ℕ) → every (eqb blank) s ≡ true → meaning (scan (initial d) s) ≡ Ok None
  unfolding scan meaning every
  blanks_mean [] e = refl
  blanks_mean (c ∷ s) e =
      let parts = both (eqb blank c) (every (eqb blank) s) e in
      rw (scan-blank c s parts.0) (blanks_mean s parts.1)

  pub scan_unpadded : (s : List ℕ) → scan (initial d) (unpadded s) ≡ scan (initial d) s
  unfolding scan unpadded
  scan_unpadded [] = refl
  scan_unpadded (c ∷ s) = either (eqb blank c)
      (λ e. rw (scan-blank c s e, e) (scan_unpadded s))
      (λ e. rw e)

  text_means : (s : List ℕ) → every (eqb blank) s ≡ false → some (eqb comma) s ≡ false
      → meaning (scan (initial d) s) ≡ meant (has_minus (unpadded s)) (without_minus (unpadded s))
  unfolding every unpadded
  text_means [] e f = contra refl e
  text_means (c ∷ s) e f = either (eqb blank c)
      (λ g. rw (scan-blank c s g, g) (text_means s (rw g at e) (no_comma c s f).1))
      (λ g. rw g (sign_means c s g f))

-- the paper's order at the end: 17 for the shape or minus zero, 18 for more than 18 digits, the value
settled_is : (good n : Bool) (m count : ℕ) → (good ≡ true → leb count max_digits ≡ ltb m (10 ^ max_digits))
    → settled good n m
    ≡ unless ((good && not (n && eqb m 0), 17) ∷ (leb count max_digits, 18) ∷ []) Err (Ok (Some (signed n m)))
unfolding settled unless
settled_is false n m count h = refl
settled_is true n m count h = either (n && eqb m 0)
    (λ e. rw e)
    (λ e. rw (e, h refl) (either (ltb m (10 ^ max_digits)) (λ f. rw f) (λ f. rw f)))

pub scan_means : (s : List ℕ) (d : ℕ) → format_good (length s) d ≡ true → meaning (scan (initial d) s) ≡ read_number s d
unfolding read_number number_checks unless text_good value_of digit_count
scan_means s d e = either (every (eqb blank) s)
    (λ f. rw (e, f) (blanks_mean d s f))
    (λ f. either (some (eqb comma) s)
    (λ g. rw (e, f, g) (comma_means s (initial d) g))
    (λ g. rw (e, f, g)
    (text_means d s f g ∙ settled_is _ _ _ (digit_count s) (count-number d (without_minus (unpadded s)) (format-decimals (length s) d e)))))

-- the same from the first character on that is no blank
pub shown_means : (s shown : List ℕ) (d : ℕ) → format_good (length s) d ≡ true → shown ≡ unpadded s → meaning (scan (initial d) shown) ≡ read_number s d
shown_means s shown d good e = rw (e, scan_unpadded) (scan_means s d good)
