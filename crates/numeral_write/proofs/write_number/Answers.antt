-- Each refusal is the rule's, and the four stores, from the right, leave the written text.
use Rattle.std.proofs.Common.{to_z-of_z, ◌≡◌, true, List, ℕ, ℤ, ◌/◌, ◌^◌, ◌<◌, length, sym, ◌∙◌, ap, arith, nat_abs}
use Rattle.octets.specs.Text.{decimal}
use Rattle.numeral.specs.Format.{format_good, max_digits}
use Rattle.numeral.specs.Writing.{sign_text, fraction_text}
use Rattle.numeral.specs.ReadingLaws.{format-decimals}
use Rattle.numeral.specs.WritingLaws.{refused-format, refused-digits, Measured, measured_refused, measured_written}
use Rattle.numeral_write.proofs.write_number.Goals as goal

-- the lengths of the parts, as they were measured of the value w that the code holds
measured : (s : List ℕ) (d : ℕ) (v w : ℤ) (n sign count tail : ℕ) → w ≡ v → format_good (length s) d ≡ true → n ≡ nat_abs w → n < 10 ^ max_digits
    → sign ≡ length (sign_text w) → count ≡ length (decimal (n / 10 ^ d)) → tail ≡ length (fraction_text d n) → Measured s d v n sign count tail
measured s d v w n sign count tail same good magnitude small the-sign the-whole the-fraction = record {
  format = good;
  magnitude = magnitude ∙ ap nat_abs same;
  small = small;
  the_sign = the-sign ∙ ap (λ (v : ℤ). length (sign_text v)) same;
  the_whole = the-whole;
  the_fraction = the-fraction;
}

pub returns-then-not-format_good : goal.returns-then-not-format_good
returns-then-not-format_good c = refused-format _ _ _ (sym c.format_good.ensures ∙ c.if-not-format_good.true)

pub returns-then-n-ge-PAST_DIGITS : goal.returns-then-n-ge-PAST_DIGITS
returns-then-n-ge-PAST_DIGITS c =
    let same = to_z-of_z c.ranges.value in
    refused-digits _ _ _ (sym c.format_good.ensures ∙ c.if-not-format_good.false)
    (rw (c.unsigned_abs-n.ensures.value, same) at c.if-n-ge-PAST_DIGITS.true)

pub fraction_length-requires : goal.fraction_length-requires
fraction_length-requires c = format-decimals _ _ (sym c.format_good.ensures ∙ c.if-not-format_good.false)

pub returns-then-width-size : goal.returns-then-width-size
returns-then-width-size c =
    let same = to_z-of_z c.ranges.value in
    let good = sym c.format_good.ensures ∙ c.if-not-format_good.false in
    measured_refused _ _ _ _ _ _ _
    (measured _ _ _ _ _ _ _ _ same good c.unsigned_abs-n.ensures.value c.if-n-ge-PAST_DIGITS.false c.sign_length-sign.ensures.0 c.whole_length-count.ensures.0
    (c.fraction_length.ensures.0 c.unsigned_abs-n.result))
    c.if-width-size.true

pub returns : goal.returns
returns c =
    let same = to_z-of_z c.ranges.value in
    let good = sym c.format_good.ensures ∙ c.if-not-format_good.false in
    measured_written _ _ _ _ _ _ _
    (measured _ _ _ _ _ _ _ _ same good c.unsigned_abs-n.ensures.value c.if-n-ge-PAST_DIGITS.false c.sign_length-sign.ensures.0 c.whole_length-count.ensures.0
    (c.fraction_length.ensures.0 c.unsigned_abs-n.result))
    _ _ (omega (arith, c.if-width-size.false)) c.put_fraction-whole.ensures.0 c.put_fraction-whole.ensures.1 c.put_digits.ensures.1 c.fill.ensures
    c.fill-2.ensures
