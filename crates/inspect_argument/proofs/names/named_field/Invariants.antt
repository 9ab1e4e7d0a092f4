-- `named_field`: no field before field j has the name.
use Rattle.std.proofs.Common.{◌≡◌}
use Rattle.inspect_argument.specs.Names.{named_below}
use Rattle.inspect_argument.proofs.names.named_field.Given as goal

abbrev pub invariant-loop-j : goal.invariant-loop-j
invariant-loop-j l = named_below l.fn.table l.fn.name l.j ≡ 0
