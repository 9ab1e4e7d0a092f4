-- `line_at`: the tests are those of the rule, and the digits that are read are the line's.
use Rattle.std.proofs.Common.{◌≡◌, sym, ◌∙◌, arith}
use Rattle.std.specs.Prelude.{Option, None, Some}
use Rattle.basis.specs.Tests.{impossible}
use Rattle.octets.specs.Text.{number_of}
use Rattle.dilute_sheet.specs.Input.{digits_at}
use Rattle.dilute_sheet.specs.InputLaws.{line_past, line_short, line_long, line_other, line_read, line_digits}
use Rattle.dilute_sheet.proofs.input.line_at.Goals as goal
use Rattle.dilute_sheet.proofs.input.line_at.Goals.{then-input-end-via-then-input-end, then-input-end-via-else-input-end+then-end-from, then-input-end-via-else-input-end+else-end-from+then-end-from-gt-MAX_DIGITS, then-input-end-via-else-input-end+else-end-from+else-end-from-gt-MAX_DIGITS+then-input-end-ne10}

pub returns-then-input-end : goal.returns-then-input-end
returns-then-input-end c =
    let is = c.digits_end-end.ensures in
    elim c.then-input-end.branch [ then-input-end-via-then-input-end w ↦ sym (line_past _ _ _ is w.if-input-end.true) | then-input-end-via-else-input-end+then-end-from w ↦ sym (line_short _ _ _ is w.if-end-from.true) | then-input-end-via-else-input-end+else-end-from+then-end-from-gt-MAX_DIGITS w ↦ sym (line_long _ _ _ is w.if-end-from-gt-MAX_DIGITS.true) | then-input-end-via-else-input-end+else-end-from+else-end-from-gt-MAX_DIGITS+then-input-end-ne10 w ↦ sym (line_other _ _ _ is w.if-end-from.false (omega arith) w.if-input-end-ne10.true) ]

pub returns-in_err-number : goal.returns-in_err-number
returns-in_err-number c =
    let none : None ≡ Some (number_of (digits_at c.args.input.now c.args.from)) =
    sym c.in_err-number.was ∙ c.read_digits.ensures ∙ line_digits _ _ _ c.digits_end-end.ensures in
    impossible (cc)

pub returns : goal.returns
returns c =
    let some : Some c.in_ok-number.number ≡ Some (number_of (digits_at c.args.input.now c.args.from)) =
    sym c.in_ok-number.was ∙ c.read_digits.ensures ∙ line_digits _ _ _ c.digits_end-end.ensures in
    let number : c.in_ok-number.number ≡ number_of (digits_at c.args.input.now c.args.from) = cc in
    sym (line_read _ _ _ c.digits_end-end.ensures c.if-end-from.false (omega arith) c.if-input-end-ne10.false _ number)
