-- The bytes from `i` on give the two strings the order of `x` and `y`.
use Rattle.std.proofs.Common.{◌≡◌, drop}
use Rattle.std.specs.declared.cmp.Ordering.TheVariants.{Equal}
use Rattle.octets.specs.Order.{ordering}
use Rattle.octets.specs.Words.{order_then}
use Rattle.octets.proofs.compare_short.Given as goal

abbrev pub invariant-loop-i : goal.invariant-loop-i
invariant-loop-i l = ordering (drop l.i l.a) (drop l.i l.b) ≡ order_then l.x l.y Equal
