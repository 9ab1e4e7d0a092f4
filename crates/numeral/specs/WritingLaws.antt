-- Laws: the writer's stores leave the written text, and `write_number` answers in its order. Assumes nothing.
use Rattle.std.specs.Prelude.{◌≡◌, refl, true, false, List, [], ◌∷◌, ◌++◌, ◌↔◌, ℕ, zero, suc, ◌+◌, ◌-◌, ◌/◌, ◌%◌, ◌^◌, ◌≤◌, ◌<◌, ℤ, pos, negsuc, nat_abs, length, replicate, set, Err, Ok}
use Rattle.std.proofs.Common.{sym, ap, ◌∙◌, zero-add, pow-suc, arith, length-append, ltb-true, lt-ltb, le-ltb, leb-true, le-leb}
use Rattle.std.proofs.Math.Nat.{sub-zero, add-sub_cancel_left, div-div-eq-div-mul}
use Rattle.std.proofs.lemmas.List.{length-replicate}
use Rattle.std.specs.Int.Signed.{lt_z}
use Rattle.std.proofs.lemmas.Bool.{lt-leb}
use Rattle.basis.specs.Tests.{contra}
use Rattle.refusal.specs.After.{After, left}
use Rattle.refusal.specs.AfterLaws.{made_none, made_at, made-accepted}
use Rattle.refusal.specs.After.{Change}
use Rattle.octets.specs.Store.{put}
use Rattle.octets.specs.StoreLaws.{put_cons, put_append, put_comm}
use Rattle.octets.specs.Text.{blank, zero_digit, last_digits, decimal}
use Rattle.octets.specs.DigitLaws.{decimal-last, last_digits-front, length-last_digits}
use Rattle.numeral.specs.Format.{max_digits, format_good, minus, point}
use Rattle.numeral.specs.Writing.{fraction_text, sign_text, number_text, written, Fits, write_checks, write_number}

-- ---- the parts of a value's text

pub sign_below : (v : ℤ) → lt_z v (pos 0) ≡ true → length (sign_text v) ≡ 1
unfolding sign_text
sign_below (pos n) e = absurd (omega (arith, ltb-true n 0 e))
sign_below (negsuc n) e = refl

pub sign_above : (v : ℤ) → lt_z v (pos 0) ≡ false → length (sign_text v) ≡ 0
unfolding sign_text
sign_above (pos n) e = refl
sign_above (negsuc n) e = contra refl e

pub fraction-some : (d n : ℕ) → 1 ≤ d → fraction_text d n ≡ point ∷ last_digits d n
unfolding fraction_text
fraction-some zero n h = absurd (omega arith)
fraction-some (suc d) n h = refl

pub length-fraction : (d n : ℕ) → 1 ≤ d → length (fraction_text d n) ≡ d + 1
length-fraction d n h = rw (fraction-some d n h, length-last_digits) (omega arith)

-- ---- a turn of the digits' loop, from the right
pub put_digit : (b : List ℕ) (end n i : ℕ) → 0 < i → i ≤ end
    → set (put b i (last_digits (end - i) n)) (i - 1) (zero_digit + n / 10 ^ (end - i) % 10) ≡ put b (i - 1) (last_digits (end - (i - 1)) n)
put_digit b end n i h l =
    let e : end - (i - 1) ≡ suc (end - i) = omega arith in
    let f : i ≡ i - 1 + 1 = omega arith in
    rw (e, last_digits-front, put_cons, ← f)

pub rest_digit : (end n i : ℕ) → 0 < i → i ≤ end → n / 10 ^ (end - i) / 10 ≡ n / 10 ^ (end - (i - 1))
rest_digit end n i h l =
    let e : end - (i - 1) ≡ suc (end - i) = omega arith in
    rw (e, pow-suc, div-div-eq-div-mul)

-- ---- the written text, stored part after part from the right

length-number : (d : ℕ) (v : ℤ) → length (number_text d v) ≡ length (sign_text v) + length (decimal (nat_abs v / 10 ^ d)) + length (fraction_text d (nat_abs v))
unfolding number_text
length-number d v = rw (length-append, length-append) (omega arith)

length-written : (width d : ℕ) (v : ℤ) → length (written width d v) ≡ width - length (number_text d v) + length (number_text d v)
unfolding written
length-written width d v = rw (length-append, length-replicate)

-- a value that fits has a text as long as the width
pub fits-length : (width d : ℕ) (v : ℤ) → Fits width d v → length (written width d v) ≡ width
fits-length width d v f = rw length-written (omega (arith, f.room))

-- a store over the whole buffer; a store of two parts is a store of the right part and then of the left
put_all : (xs ys : List ℕ) → length ys ≡ length xs → put xs 0 ys ≡ ys
unfolding put
put_all [] [] e = refl
put_all [] (y ∷ ys) e = absurd (omega arith)
put_all (x ∷ xs) [] e = absurd (omega arith)
put_all (x ∷ xs) (y ∷ ys) e = ap (λ (l : List ℕ). y ∷ l) (put_all xs ys (omega arith))

put_right : (xs : List ℕ) (at : ℕ) (ys zs : List ℕ) → put xs at (ys ++ zs) ≡ put (put xs (at + length ys) zs) at ys
put_right xs at ys zs = put_append xs at ys zs ∙ put_comm xs at ys (at + length ys) zs (omega arith)

-- a fill of as many minuses as the sign has characters
sign_fill : (v : ℤ) → replicate (length (sign_text v)) minus ≡ sign_text v
unfolding sign_text
sign_fill (pos n) = refl
sign_fill (negsuc n) = refl

written-stores : (s : List ℕ) (d : ℕ) (v : ℤ) (at : ℕ) → at + length (number_text d v) ≡ length s
    → written (length s) d v
    ≡ put
    (put
    (put
    (put s (at + length (sign_text v) + length (decimal (nat_abs v / 10 ^ d))) (fraction_text d (nat_abs v)))
    (at + length (sign_text v))
    (decimal (nat_abs v / 10 ^ d)))
    at
    (sign_text v))
    0
    (replicate at blank)
unfolding written number_text
written-stores s d v at h =
    let e : length s - length (number_text d v) ≡ at = omega arith in
    let l : length (written (length s) d v) ≡ length s = rw (length-written, e) h in
    sym (put_all s (written (length s) d v) l) ∙ rw (e, put_right, length-replicate, put_right, put_right, zero-add)

-- ---- the writer's answers, in their order

module _ (s : List ℕ) (d : ℕ) (v : ℤ) where
  pub refused-format : format_good (length s) d ≡ false → write_number s d v ≡ left s (Err 6)
  unfolding write_number write_checks
  refused-format e = made_at (written (length s) d v) s 0 (write_checks s d v) tt e

  pub refused-digits : format_good (length s) d ≡ true → 10 ^ max_digits ≤ nat_abs v → write_number s d v ≡ left s (Err 18)
  unfolding write_number write_checks
  refused-digits e l = made_at (written (length s) d v) s 1 (write_checks s d v) (e, tt) (le-ltb (nat_abs v) (10 ^ max_digits) l)

  pub refused-width : format_good (length s) d ≡ true → nat_abs v < 10 ^ max_digits → length s < length (number_text d v)
      → write_number s d v ≡ left s (Err 19)
  unfolding write_number write_checks
  refused-width e l m =
      made_at (written (length s) d v) s 2 (write_checks s d v) (e, (lt-ltb (nat_abs v) (10 ^ max_digits) l, tt))
      (lt-leb (length (number_text d v)) (length s) m)

  written-good : Fits (length s) d v → write_number s d v ≡ left (written (length s) d v) (Ok tt)
  unfolding write_number write_checks
  written-good f =
      made_none (written (length s) d v) s (write_checks s d v)
      (f.format, (lt-ltb (nat_abs v) (10 ^ max_digits) f.small, (le-leb (length (number_text d v)) (length s) f.room, tt)))

-- a value is written exactly if it fits, and the buffer is then its text
pub written-exactly : (s t : List ℕ) (d : ℕ) (v : ℤ)
    → (write_number s d v ≡ left t (Ok tt)) ↔ (Fits (length s) d v × (t ≡ written (length s) d v))
unfolding write_number write_checks
written-exactly s t d v = (
  (λ h.
      let done = made-accepted (written (length s) d v) s (write_checks s d v) (ap (λ (l : After Change). l.answer) h) in
      let held = done.held in (
        record { format = held.0; small = ltb-true _ _ held.1.0; room = leb-true _ _ held.1.1.0 },
        sym (ap (λ (l : After Change). l.after) h) ∙ done.leaves,
      )),
  (λ h. written-good s d v h.0 ∙ ap (λ (b : List ℕ). left b (Ok tt)) (sym h.1)),
)

-- what the writer knows before it compares the widths: the magnitude of v, and the lengths of the text's three parts
pub record Measured (s : List ℕ) (d : ℕ) (v : ℤ) (n sign count tail : ℕ) : Type 0 where
  pub format : format_good (length s) d ≡ true
  pub magnitude : n ≡ nat_abs v
  pub small : n < 10 ^ max_digits
  pub the_sign : sign ≡ length (sign_text v)
  pub the_whole : count ≡ length (decimal (n / 10 ^ d))
  pub the_fraction : tail ≡ length (fraction_text d n)

module _ (s : List ℕ) (d : ℕ) (v : ℤ) (n sign count tail : ℕ) (m : Measured s d v n sign count tail) where
  size : length (number_text d v) ≡ sign + count + tail
  size = rw (length-number d v, ← m.magnitude, m.the_sign, m.the_whole, m.the_fraction)

  pub measured_refused : length s < sign + count + tail → write_number s d v ≡ left s (Err 19)
  measured_refused h = refused-width s d v m.format (rw m.magnitude at m.small) (rw size h)

  -- the four stores, each on the buffer that the last one left
  pub measured_written : (at whole : ℕ) {b₁ b₂ b₃ b₄ : List ℕ} → at + (sign + count + tail) ≡ length s → whole ≡ n / 10 ^ d
      → b₁ ≡ put s (at + sign + count) (fraction_text d n)
      → b₂ ≡ put b₁ (at + sign) (last_digits count whole)
      → b₃ ≡ put b₂ at (replicate (at + sign - at) minus)
      → b₄ ≡ put b₃ 0 (replicate (at - 0) blank)
      → write_number s d v ≡ left b₄ (Ok tt)
  measured_written at whole h w e₁ e₂ e₃ e₄ =
      let minuses : replicate (at + sign - at) minus ≡ sign_text v = rw (add-sub_cancel_left, m.the_sign) (sign_fill v) in
      let stored = written-stores s d v at (rw size h) in
      written-good s d v (record { format = m.format; small = rw m.magnitude at m.small; room = rw size (omega arith) })
      ∙ ap (λ (b : List ℕ). left b (Ok tt)) (stored ∙ rw (e₄, e₃, e₂, e₁, minuses, sub-zero, w, m.the_whole, m.the_sign, m.magnitude, ← decimal-last))
