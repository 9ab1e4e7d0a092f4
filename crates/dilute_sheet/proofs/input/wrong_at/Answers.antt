-- `wrong_at`: the tests are those of the rule, in its order.
use Rattle.std.proofs.Common.{sym, arith}
use Rattle.dilute_sheet.specs.FaultLaws.{wrong_missing, wrong_long, wrong_unended, wrong_return, wrong_byte, wrong_empty, wrong_nothing}
use Rattle.dilute_sheet.proofs.input.wrong_at.Goals as goal

pub returns-then-input-from : goal.returns-then-input-from
returns-then-input-from c = sym (wrong_missing _ _ _ c.digits_end-end.ensures c.if-input-from.true)

pub returns-then-end-from-gt-MAX_DIGITS : goal.returns-then-end-from-gt-MAX_DIGITS
returns-then-end-from-gt-MAX_DIGITS c = sym (wrong_long _ _ _ c.digits_end-end.ensures (omega arith) c.if-end-from-gt-MAX_DIGITS.true)

pub returns-then-input-end : goal.returns-then-input-end
returns-then-input-end c = sym (wrong_unended _ _ _ c.digits_end-end.ensures (omega arith) (omega arith) c.if-input-end.true)

pub returns-then-input-end-eq13 : goal.returns-then-input-end-eq13
returns-then-input-end-eq13 c = sym (wrong_return _ _ _ c.digits_end-end.ensures (omega arith) (omega arith) (omega arith) c.if-input-end-eq13.true)

pub returns-then-input-end-ne10 : goal.returns-then-input-end-ne10
returns-then-input-end-ne10 c =
    sym (wrong_byte _ _ _ c.digits_end-end.ensures (omega arith) (omega arith) (omega arith) c.if-input-end-eq13.false c.if-input-end-ne10.true)

pub returns-then-end-from : goal.returns-then-end-from
returns-then-end-from c =
    sym (wrong_empty _ _ _ c.digits_end-end.ensures (omega arith) (omega arith) (omega arith) c.if-input-end-eq13.false c.if-input-end-ne10.false
    c.if-end-from.true)

pub returns : goal.returns
returns c =
    sym (wrong_nothing _ _ _ c.digits_end-end.ensures (omega arith) (omega arith) (omega arith) c.if-input-end-eq13.false c.if-input-end-ne10.false
    c.if-end-from.false)
