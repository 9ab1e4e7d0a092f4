-- `upper_pages`: a page whose keys are ceilings hands on to the next, another decides.
use Rattle.std.proofs.Common.{refl, sym, ◌∙◌, arith}
use Rattle.idx_ceilings.specs.KeyLaws.{upper-pages-none, upper-pages-end, upper-pages_off, upper-pages-on}
use Rattle.idx_ceilings.proofs.upper_pages.Goals as goal

pub returns-then-not-is_page : goal.returns-then-not-is_page
returns-then-not-is_page c =
    upper-pages-none _ _ _ _ _ _ _ _ _ c.loop.invariant (sym c.is_page.ensures.test ∙ c.if-not-is_page.true)

pub returns-in_err-exact : goal.returns-in_err-exact
returns-in_err-exact c =
    let more = c.loop-test.true in
    rw c.from_residual.ensures
    (upper-pages_off _ _ _ _ _ _ _ _ _ c.loop.invariant _ (omega arith) (sym c.is_page.ensures.test ∙ c.if-not-is_page.false) c.in_err-exact.ensures refl)

pub loop-preserved : goal.loop-preserved
loop-preserved c =
    let more = c.loop-test.true in
    upper-pages-on _ _ _ _ _ _ _ _ _ c.loop.invariant _ (omega arith) (sym c.is_page.ensures.test ∙ c.if-not-is_page.false) c.in_ok-exact.ensures
    _ _ c.at.ensures.right refl (omega arith)

pub returns : goal.returns
returns c = upper-pages-end _ _ _ _ _ _ _ _ _ c.loop.invariant (omega (arith, c.loop-test.false))
