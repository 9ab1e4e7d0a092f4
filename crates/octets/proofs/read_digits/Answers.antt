-- A digit goes into the number, which has as many digits at most as were read, and another character decides.
use Rattle.std.proofs.Common.{sym, ◌∙◌, ◌<◌, ◌^◌, lit<, add-one, arith, ℕ, get_or}
use Rattle.std.proofs.Math.Nat.{pow-le-pow_right}
use Rattle.octets.specs.TextLaws.{digit_range, digits-start, digits_more, digits_stop, digits-end}
use Rattle.octets.specs.DigitLaws.{digit_bound}
use Rattle.octets.proofs.read_digits.Goals as goal

pub loop-c-init : goal.loop-c-init
loop-c-init c = (digits-start _, lit< tt)

pub returns-then-not-is_digit : goal.returns-then-not-is_digit
returns-then-not-is_digit c = sym (c.loop-c.invariant.0 ∙ digits_stop _ _ c.loop-c-test.true _ (sym c.if-not-is_digit.ensures))

-- the number before the digit has 18 digits at most
few : (n i : ℕ) → n < 10 ^ i → i < 19 → n < 10 ^ 18
few n i b h = omega (arith, pow-le-pow_right {n = 10} (lit< tt) {i = i} {j = 18} (omega arith))

pub overflow_mul-number : goal.overflow_mul-number
overflow_mul-number c = omega (arith, few _ _ c.loop-c.invariant.1 (omega arith))

pub overflow_add-number : goal.overflow_add-number
overflow_add-number c = omega (arith, few _ _ c.loop-c.invariant.1 (omega arith), (digit_range (get_or c.args.text.now c.loop-c.c-index 0) (sym c.if-not-is_digit.ensures)).1)

pub loop-c-preserved : goal.loop-c-preserved
loop-c-preserved c =
    let digit = sym c.if-not-is_digit.ensures in
    rw (c.from.ensures)
    (c.loop-c.invariant.0 ∙ digits_more _ _ c.loop-c-test.true _ digit, rw add-one (digit_bound _ _ _ c.loop-c.invariant.1 digit))

pub returns : goal.returns
returns c = sym (c.loop-c.invariant.0 ∙ digits-end _ _ _ c.loop-c-test.false)
