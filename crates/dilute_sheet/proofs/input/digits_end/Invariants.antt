-- `digits_end`: the digits from `end` on end where those from `from` on end.
use Rattle.std.proofs.Common.{◌+◌, ◌≡◌, length}
use Rattle.dilute_sheet.specs.Input.{digits_at}
use Rattle.dilute_sheet.proofs.input.digits_end.Given as goal

abbrev pub invariant-loop-end : goal.invariant-loop-end
invariant-loop-end l = l.end + length (digits_at l.fn.input l.end) ≡ l.fn.from + length (digits_at l.fn.input l.fn.from)
