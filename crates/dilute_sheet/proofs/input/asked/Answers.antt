-- `asked`: the rule over four lines, each behind the one before.
use Rattle.std.proofs.Common.{◌≡◌, arith, length}
use borrow.Author.Tests.{eq-eqb, ne_eqb}
use Rattle.dilute_sheet.specs.Input.{no_line, next_line, input_of, request_of}
use Rattle.dilute_sheet.proofs.input.asked.Goals as goal

pub returns-in_err-first : goal.returns-in_err-first
unfolding input_of next_line no_line
returns-in_err-first c = rw (c.from_residual.ensures, ← c.in_err-first.ensures)

pub returns-in_err-second : goal.returns-in_err-second
unfolding input_of next_line no_line
returns-in_err-second c = rw (c.from_residual-in_err-second.ensures, ← c.in_ok-first.ensures, ← c.in_err-second.ensures)

pub returns-in_err-third : goal.returns-in_err-third
unfolding input_of next_line no_line
returns-in_err-third c =
    rw (c.from_residual-in_err-third.ensures, ← c.in_ok-first.ensures, ← c.in_ok-second.ensures, ← c.in_err-third.ensures)

pub returns-in_err-fourth : goal.returns-in_err-fourth
unfolding input_of next_line no_line
returns-in_err-fourth c =
    rw (c.from_residual-in_err-fourth.ensures, ← c.in_ok-first.ensures, ← c.in_ok-second.ensures, ← c.in_ok-third.ensures, ← c.in_err-fourth.ensures)

pub returns-then-fourth-input : goal.returns-then-fourth-input
unfolding input_of next_line no_line
returns-then-fourth-input c =
    rw (
      ← c.in_ok-first.ensures,
      ← c.in_ok-second.ensures,
      ← c.in_ok-third.ensures,
      ← c.in_ok-fourth.ensures,
      ne_eqb c.in_ok-fourth.fourth.end (length c.args.input.now) (omega arith),
    )

pub returns : goal.returns
unfolding input_of next_line no_line request_of
returns c =
    rw (
      c.at_most_32_bits.ensures,
      c.at_most_32_bits-2.ensures,
      ← c.in_ok-first.ensures,
      ← c.in_ok-second.ensures,
      ← c.in_ok-third.ensures,
      ← c.in_ok-fourth.ensures,
      eq-eqb c.in_ok-fourth.fourth.end (length c.args.input.now) (omega arith),
    )
