-- Laws: how the code reads a line of the input. Assumes nothing.
use Rattle.std.specs.Prelude.{ℕ, ◌+◌, ◌-◌, ◌≤◌, ◌<◌, ◌≡◌, refl, Bool, true, false, ◌&&◌, take, eqb, Some, Result, Ok, Err}
use Rattle.std.proofs.Common.{ap, ◌∙◌, add-one, drop-cons}
use mathlib.Core.List.{List, [], ◌∷◌}
use native.Mathlib.Omega.{arith}
use Rattle.std.proofs.Math.ListN.{length, drop, drop_of_length-le, get_or-eq_default}
use Rattle.std.proofs.Math.Dec.{leb}
use borrow.Author.Tests.{le-leb, lt-leb, eq-eqb, ne_eqb}
use Rattle.basis.specs.Tests.{either}
use Rattle.octets.specs.Bytes.{byte_at}
use Rattle.octets.specs.Text.{is_digit, number_of, digits_of}
use Rattle.octets.specs.TextLaws.{digits-read}
use Rattle.numeral.specs.Reading.{front}
use Rattle.numeral.specs.ReadingLaws.{front-more, front_ends, every_front}
use Rattle.dilute_sheet.specs.declared.input.Request.{Request}
use Rattle.dilute_sheet.specs.Input.{Line, line_feed, digits_at, line_good, no_line, line_at, next_line, request_of, input_of, four_lines, four_numbers, InputAnswer}

-- ---- the digits, one after another

module _ (s : List ℕ) (i : ℕ) where
  pub digits_more : i < length s → is_digit (byte_at s i) ≡ true → length (digits_at s i) ≡ 1 + length (digits_at s (i + 1))
  digits_more l d = let split : drop i s ≡ byte_at s i ∷ drop (i + 1) s = rw add-one (drop-cons s i 0 l) in
      rw (split, front-more is_digit (byte_at s i) (drop (i + 1) s) d) (omega arith)

  pub digits_stop : i < length s → is_digit (byte_at s i) ≡ false → length (digits_at s i) ≡ 0
  digits_stop l d = let split : drop i s ≡ byte_at s i ∷ drop (i + 1) s = rw add-one (drop-cons s i 0 l) in
      rw (split, front_ends is_digit (byte_at s i) (drop (i + 1) s) d)

  pub digits-none : length s ≤ i → length (digits_at s i) ≡ 0
  unfolding front
  digits-none l = let e : drop i s ≡ [] = drop_of_length-le s l in rw e

and-false : (x : Bool) → x && false ≡ false
and-false true = refl
and-false false = refl

-- the front of a text is its first bytes
front-none : (p : ℕ → Bool) → front p [] ≡ []
unfolding front
front-none p = refl

front_take : (p : ℕ → Bool) (s : List ℕ) → take (length (front p s)) s ≡ front p s
front_take p [] = rw (front-none p)
front_take p (c ∷ s) = either (p c)
    (λ e. rw (front-more p c s e) (ap (λ (l : List ℕ). c ∷ l) (front_take p s)))
    (λ e. rw (front_ends p c s e))

-- ---- a line

-- the digits end at `end`
module _ (s : List ℕ) (at end : ℕ) (is : end ≡ at + length (digits_at s at)) where
  count : end - at ≡ length (digits_at s at)
  count = omega arith

  -- the digits that are read are those of the line
  pub line_digits : digits_of (take (end - at) (drop at s)) ≡ Some (number_of (digits_at s at))
  line_digits = rw (count, front_take is_digit (drop at s)) (digits-read (digits_at s at) (every_front is_digit (drop at s)))

  bad_line : line_good s at ≡ false → line_at s at ≡ no_line
  unfolding line_at
  bad_line e = rw e

  -- a text that ends with its digits has no line feed behind them
  pub line_past : length s ≤ end → line_at s at ≡ no_line
  unfolding line_good
  line_past l =
      let past : byte_at s (at + length (digits_at s at)) ≡ 0 = get_or-eq_default s 0 (omega arith) in
      bad_line (rw past (and-false (leb 1 (length (digits_at s at)) && leb (length (digits_at s at)) 10)))

  pub line_short : end ≡ at → line_at s at ≡ no_line
  unfolding line_good
  line_short e = let none : length (digits_at s at) ≡ 0 = omega arith in bad_line (rw none)

  pub line_long : 10 < end - at → line_at s at ≡ no_line
  unfolding line_good
  line_long l = bad_line (either (leb 1 (length (digits_at s at)))
      (λ e. rw (e, lt-leb (length (digits_at s at)) 10 (omega arith)))
      (λ e. rw e))

  module _ (some : end ≡ at → ⊥) (few : end - at ≤ 10) where
    tests : line_good s at ≡ eqb (byte_at s end) line_feed
    unfolding line_good
    tests =
        let from = le-leb 1 (length (digits_at s at)) (omega (arith, some)) in
        let to = le-leb (length (digits_at s at)) 10 (omega arith) in
        rw (from, to, is)

    pub line_other : (byte_at s end ≡ line_feed → ⊥) → line_at s at ≡ no_line
    line_other h = bad_line (tests ∙ ne_eqb (byte_at s end) line_feed h)

    pub line_read : byte_at s end ≡ line_feed → (n : ℕ) → n ≡ number_of (digits_at s at) → line_at s at ≡ record { good = true; end = end + 1; number = n }
    unfolding line_at
    line_read h n e = rw (tests ∙ eq-eqb (byte_at s end) line_feed h, e, is)

-- ---- four lines

module _ (s : List ℕ) (before : Line) where
  pub next-none : before.good ≡ false → next_line s before ≡ no_line
  unfolding next_line
  next-none e = rw e

  pub next-some : before.good ≡ true → next_line s before ≡ line_at s before.end
  unfolding next_line
  next-some e = rw e

module _ (s : List ℕ) (first second third fourth : Line) (a : first ≡ line_at s 0) (b : second ≡ next_line s first) (c : third ≡ next_line s second)
    (d : fourth ≡ next_line s third) where
  pub input_asked : fourth.good && eqb fourth.end (length s) ≡ true → input_of s ≡ Ok (request_of first second third fourth)
  unfolding input_of
  input_asked e = rw (← a, ← b, ← c, ← d, e)

  pub input_other : fourth.good && eqb fourth.end (length s) ≡ false → input_of s ≡ Err 40
  unfolding input_of
  input_other e = rw (← a, ← b, ← c, ← d, e)

-- the answer's number and values, by its case
pub input_answer : (s : List ℕ) (r : Result Request ℕ) → r ≡ input_of s → InputAnswer s r
unfolding input_of four_lines four_numbers request_of
input_answer s r e = record {
  case = e;
  number = rw e (either (four_lines s) (λ good. rw good) (λ bad. rw bad));
  values = rw e (either (four_lines s) (λ good. rw good) (λ bad. rw bad));
}
