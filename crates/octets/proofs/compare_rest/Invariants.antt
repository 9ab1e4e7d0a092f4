-- The bytes from `from` on and those from `i` on give the two strings the same order.
use Rattle.std.proofs.Common.{◌≡◌, drop}
use Rattle.octets.specs.Order.{ordering}
use Rattle.octets.proofs.compare_rest.Given as goal

abbrev pub invariant-loop-i : goal.invariant-loop-i
invariant-loop-i l = ordering (drop l.from l.a) (drop l.from l.b) ≡ ordering (drop l.i l.a) (drop l.i l.b)
