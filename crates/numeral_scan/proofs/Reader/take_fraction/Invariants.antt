-- The state at character `i` ends, by the characters from there on, where the state at the call ends by the whole text; its phase is known.
use Rattle.std.proofs.Common.{◌≡◌, drop}
use Rattle.numeral_scan.specs.Scan.{scan}
use Rattle.numeral_scan.specs.declared.Phase.TheVariants as phase
use Rattle.numeral_scan.proofs.Reader.take_fraction.Given as goal

abbrev pub invariant-loop-i : goal.invariant-loop-i
invariant-loop-i l = (scan l.fn.self l.text ≡ scan l.reader (drop l.i l.text)) × (l.reader.phase ≡ phase.Fraction l.left)
