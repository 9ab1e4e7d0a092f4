-- `field_argument` answers by the length and the first byte, which are the rule's cases, and then by the digits.
use Rattle.std.proofs.Common.{sym, ap, ◌∙◌, arith}
use Rattle.inspect_argument.specs.ArgumentLaws.{too_short, too_long, by_name, of_digits, by_digits, field-answer}
use Rattle.inspect_argument.proofs.field_argument.Goals as goal
use Rattle.inspect_argument.proofs.field_argument.Goals.{then-text-lt1-via-then-text-lt1, then-text-lt1-via-else-text-lt1+then-text-gt10}

pub returns-then-text-lt1 : goal.returns-then-text-lt1
returns-then-text-lt1 c =
    field-answer _ _ (sym (elim c.then-text-lt1.branch [ then-text-lt1-via-then-text-lt1 w ↦ too_short _ (omega arith) | then-text-lt1-via-else-text-lt1+then-text-gt10 w ↦ too_long _ (omega arith) ]))

pub returns-then-not-is_digit : goal.returns-then-not-is_digit
returns-then-not-is_digit c =
    field-answer _ _ (sym (by_name _ (omega arith) (omega arith) (sym c.is_digit.ensures ∙ c.if-not-is_digit.true)))

pub returns-in-Some : goal.returns-in-Some
returns-in-Some c =
    let first = sym c.is_digit.ensures ∙ c.if-not-is_digit.false in
    let said = ap of_digits (sym c.read_digits.ensures ∙ c.in-Some.is) in
    field-answer _ _ (rw c.at_most_32_bits.ensures (sym (by_digits _ (omega arith) (omega arith) first ∙ said)))

pub returns-in-None : goal.returns-in-None
returns-in-None c =
    let first = sym c.is_digit.ensures ∙ c.if-not-is_digit.false in
    field-answer _ _ (sym (by_digits _ (omega arith) (omega arith) first ∙ ap of_digits (sym c.read_digits.ensures ∙ c.in-None.is)))
