-- The tests in their order, and then the volumes.
use Rattle.std.proofs.Common.{sym, ap, ◌∙◌, arith}
use Rattle.std.specs.Prelude.{Ok}
use Rattle.dilution.specs.StepLaws.{refused_36, refused_37, refused_38, diluted, range_bounds}
use Rattle.dilution.proofs.dilution_of.Goals as goal

pub returns-then-concentration-eq0 : goal.returns-then-concentration-eq0
returns-then-concentration-eq0 c = sym (refused_36 _ _ _ c.if-concentration-eq0.true)

pub returns-then-not-ranged : goal.returns-then-not-ranged
returns-then-not-ranged c = sym (refused_37 _ _ _ c.if-concentration-eq0.false (sym c.if-not-ranged.ensures))

pub returns-then-concentration-target : goal.returns-then-concentration-target
returns-then-concentration-target c =
    sym (refused_38 _ _ _ c.if-concentration-eq0.false (sym c.if-not-ranged.ensures) c.if-concentration-target.true)

pub volumes_of-requires : goal.volumes_of-requires
volumes_of-requires c =
    let bounds = range_bounds _ _ (sym c.if-not-ranged.ensures) in
    (omega (arith, c.if-concentration-eq0.false), omega arith, bounds.0, bounds.1)

pub returns : goal.returns
returns c =
    ap Ok c.volumes_of.ensures
    ∙ sym (diluted _ _ _ c.if-concentration-eq0.false (sym c.if-not-ranged.ensures) (omega (arith, c.if-concentration-target.false)))
