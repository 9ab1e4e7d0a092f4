-- `upper_levels`: a level of leaves has no keys above pages; another comes after the level below, if that has ceilings.
use Rattle.std.proofs.Common.{refl}
use Rattle.idx_ceilings.specs.KeyLaws.{upper-levels-end, upper-levels_off, upper-levels-on}
use Rattle.idx_ceilings.proofs.+upper_levels.Goals as goal

pub returns-then-height-eq0 : goal.returns-then-height-eq0
returns-then-height-eq0 t c = upper-levels-end _ _ _ _ _ c.if-height-eq0.true

pub returns-in_err-exact : goal.returns-in_err-exact
returns-in_err-exact t c =
    rw c.from_residual.ensures (upper-levels_off _ _ _ _ _ _ _ c.if-height-eq0.false c.first_child.ensures c.in_err-exact.ensures refl)

pub returns : goal.returns
returns t c =
    upper-levels-on _ _ _ _ _ _ _ c.if-height-eq0.false c.first_child.ensures c.in_ok-exact.ensures _ _ refl c.steps.ensures c.upper_pages.ensures
