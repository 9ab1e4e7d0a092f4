-- The words that were read leave the order to the bytes behind them.
use Rattle.std.proofs.Common.{◌≡◌, ◌*◌, drop}
use Rattle.octets.specs.Order.{ordering}
use Rattle.octets.proofs.compare.Given as goal

abbrev pub invariant-loop-i : goal.invariant-loop-i
invariant-loop-i l = ordering l.a l.b ≡ ordering (drop (8 * l.i) l.a) (drop (8 * l.i) l.b)
