-- The state ends, by the rest, where the state at the call ends by the whole text. Each turn leaves a shorter rest.
use Rattle.std.proofs.Common.{length, ◌≡◌}
use Rattle.numeral_scan.specs.Scan.{scan}
use Rattle.numeral_scan.proofs.Reader.take_all.Given as goal

abbrev pub invariant-loop-rest : goal.invariant-loop-rest
invariant-loop-rest l = scan l.fn.self l.text ≡ scan l.reader l.rest

abbrev pub decreases-loop-rest : goal.decreases-loop-rest
decreases-loop-rest l = length l.rest
