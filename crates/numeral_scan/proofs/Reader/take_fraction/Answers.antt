-- A digit goes into the number, and one digit fewer is to come.
use Rattle.std.proofs.Common.{sym, ap, refl, ◌∙◌, ◌+◌, arith, drop}
use Rattle.numeral_scan.specs.Scan.{scan}
use Rattle.numeral_scan.specs.ScanLaws.{fraction_digit, scan_next}
use Rattle.numeral_scan.proofs.Reader.take_fraction.Goals as goal

pub loop-i-preserved : goal.loop-i-preserved
loop-i-preserved c =
    let digit = fraction_digit c.loop-i.reader c.loop-i.left _ c.loop-i.invariant.1 (omega arith) (sym c.if-not-is_digit.ensures) in (
      c.loop-i.invariant.0
          ∙ scan_next _ _ c.loop-i.i (omega arith)
          ∙ ap (λ r. scan r (drop (c.loop-i.i + 1) c.args.text.now)) (digit ∙ sym c.with_digit-reader.ensures),
      rw c.with_digit-reader.ensures refl,
    )
