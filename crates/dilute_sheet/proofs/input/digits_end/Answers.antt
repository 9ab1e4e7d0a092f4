-- `digits_end`: a digit moves the end by one, another byte or the input's end is where the digits end.
use Rattle.std.proofs.Common.{◌+◌, ◌≡◌, length, sym, ◌∙◌, arith}
use Rattle.dilute_sheet.specs.InputLaws.{digits_more, digits_stop, digits-none}
use Rattle.dilute_sheet.proofs.input.digits_end.Goals as goal

pub returns-then-not-is_digit : goal.returns-then-not-is_digit
returns-then-not-is_digit c =
    let stop = digits_stop c.args.input.now c.loop-end.end (omega arith) (sym c.is_digit.ensures ∙ c.if-not-is_digit.true) in
    omega (arith, c.loop-end.invariant, stop)

pub loop-end-preserved : goal.loop-end-preserved
loop-end-preserved c =
    let more = digits_more c.args.input.now c.loop-end.end (omega arith) (sym c.is_digit.ensures ∙ c.if-not-is_digit.false) in
    omega (arith, c.loop-end.invariant, more)

pub returns : goal.returns
returns c =
    let none = digits-none c.args.input.now c.loop-end.end c.loop-end-test.false in
    let past = digits-none c.args.input.now c.args.from in
    grind (arith, c.loop-end.invariant, none, past, c.loop-end.auto.end-end, c.max.ensures)
