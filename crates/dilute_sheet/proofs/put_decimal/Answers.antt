-- `put_decimal`: the writer's text without its blanks is the number's digits.
use mir.Syntax.{w64}
use mir.ValLaws.{to_z_pos}
use Rattle.std.specs.Prelude.{ℕ, List, refl}
use Rattle.std.proofs.Math.Path.{sym}
use Rattle.std.proofs.Common.{ap, ◌∙◌, arith}
use Rattle.dilute_sheet.specs.Output.{wrote}
use Rattle.dilute_sheet.specs.SheetLaws.{decimal-written, decimal-part}
use Rattle.dilute_sheet.proofs.put_decimal.Goals as goal

pub returns : goal.returns
returns c =
    let small = to_z_pos w64 c.args.number (omega (arith, c.ranges.number)) in
    let digits = decimal-written _ _ _ c.args.number _ refl (omega (arith, c.ranges.number)) small c.write_number.ensures in
    let part = decimal-part _ c.padding-from.result _ digits c.padding-from.ensures.1 in
    ap (λ (l : List ℕ). wrote c.args.out.now c.args.at l) (sym part) ∙ c.put.ensures
