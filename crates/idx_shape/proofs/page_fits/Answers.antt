-- `page_fits`: the offset is tested before the page is read, and its head before its entries.
use Rattle.std.proofs.Common.{sym, ◌∙◌}
use Rattle.idx_shape.specs.StepLaws.{fits_no_page, fits_not, fits_count, fits_then}
use Rattle.idx_shape.proofs.page_fits.Goals as goal

pub returns-then-not-is_page : goal.returns-then-not-is_page
returns-then-not-is_page c =
    let a = c.args in
    fits_no_page a.file.now.bytes.now a.file.now.key_length a.file.now.size a.attribute a.page.0 a.met.last.0 a.met.next.0
    (sym c.is_page.ensures.test ∙ c.if-not-is_page.true)

pub returns-then-not-head-attribute : goal.returns-then-not-head-attribute
returns-then-not-head-attribute c =
    let is = c.at-head.ensures in
    fits_not _ _ _ _ _ _ _ (sym c.is_page.ensures.test ∙ c.if-not-is_page.false) _ _ _ _ is.attribute is.count is.left c.count_good.ensures
    c.if-not-head-attribute.true

pub entries_fit-requires : goal.entries_fit-requires
entries_fit-requires c =
    let is = c.at-head.ensures in
    fits_count _ _ _ _ _ _ _ (sym c.is_page.ensures.test ∙ c.if-not-is_page.false) _ _ _ _ is.attribute is.count is.left c.count_good.ensures
    c.if-not-head-attribute.false

pub returns : goal.returns
returns c =
    let is = c.at-head.ensures in
    fits_then _ _ _ _ _ _ _ (sym c.is_page.ensures.test ∙ c.if-not-is_page.false) _ _ _ _ is.attribute is.count is.left c.count_good.ensures
    c.if-not-head-attribute.false _ c.entries_fit.ensures
