-- `input_fault`: the first fault is the first from the next line on.
use Rattle.std.proofs.Common.{◌-◌, ◌≡◌}
use Rattle.dilute_sheet.specs.Fault.{fault_from, input_fault}
use Rattle.dilute_sheet.proofs.input.input_fault.Given as goal

abbrev pub invariant-loop-line : goal.invariant-loop-line
invariant-loop-line l = fault_from l.fn.input l.line l.from (5 - l.line) ≡ input_fault l.fn.input
