-- A value below 0 is no concentration; another is its own.
use mir.Syntax.{w64}
use mir.ValLaws.{to_z-of_z}
use Rattle.std.proofs.Common.{sym}
use Rattle.dilution.specs.StepLaws.{amount_none, amount_some}
use Rattle.dilution.proofs.amount_of.Goals as goal

pub returns-then-value-lt0 : goal.returns-then-value-lt0
returns-then-value-lt0 c = sym (amount_none _ (rw (to_z-of_z w64 c.args.value c.ranges.value) at c.if-value-lt0.true))

pub returns-else-value-lt0 : goal.returns-else-value-lt0
returns-else-value-lt0 c =
    let same = to_z-of_z w64 c.args.value c.ranges.value in
    rw same (sym (amount_some _ (rw same at c.if-value-lt0.false)))
