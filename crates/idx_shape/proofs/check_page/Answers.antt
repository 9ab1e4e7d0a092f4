-- `check_page`: a page that fits lies within the index, and its right link is kept.
use Rattle.std.proofs.Common.{sym, ◌∙◌}
use Rattle.idx_shape.specs.StepLaws.{fits-within, page-met, page-refused}
use Rattle.idx_shape.proofs.check_page.Goals as goal

pub returns-then-not-page_fits : goal.returns-then-not-page_fits
returns-then-not-page_fits c = page-refused _ _ _ _ _ c.args.met (sym c.page_fits.ensures ∙ c.if-not-page_fits.true)

pub at-requires : goal.at-requires
at-requires c = fits-within _ _ _ _ _ _ _ (sym c.page_fits.ensures ∙ c.if-not-page_fits.false) c.args.file.now.inside

pub returns : goal.returns
returns c = page-met _ _ _ _ _ c.args.met (sym c.page_fits.ensures ∙ c.if-not-page_fits.false) c.at.result.right c.at.ensures.right
