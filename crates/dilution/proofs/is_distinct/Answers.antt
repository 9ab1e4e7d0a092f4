-- A good header, and one record to a key.
use Rattle.std.proofs.Common.{sym, ◌∙◌}
use Rattle.idx_page.specs.HeaderLaws.{good-header}
use Rattle.dilution.specs.StepLaws.{distinct-bad, distinct-tested}
use Rattle.dilution.proofs.is_distinct.Goals as goal

pub several-requires : goal.several-requires
several-requires c = (good-header _ (sym c.if-header_good.ensures)).long

pub returns-then-header_good : goal.returns-then-header_good
returns-then-header_good c = distinct-tested _ _ (sym c.if-header_good.ensures) c.several.ensures

pub returns-else-header_good : goal.returns-else-header_good
returns-else-header_good c = c.if-header_good.false ∙ distinct-bad _ (sym c.if-header_good.ensures)
