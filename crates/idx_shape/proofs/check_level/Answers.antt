-- `check_level`: a row of children that fit hands on to the row of the next page; one that does not, or that is too long, ends the pass.
use Rattle.std.proofs.Common.{sym, ◌∙◌, refl, arith}
use Rattle.idx_shape.specs.PassLaws.{pages_off, pages-end, pages-on, pages-refused, pages-over}
use Rattle.idx_shape.proofs.check_level.Goals as goal

pub returns-then-not-is_page : goal.returns-then-not-is_page
returns-then-not-is_page c = pages_off _ _ _ _ _ _ _ _ _ c.loop.invariant (sym c.is_page.ensures.test ∙ c.if-not-is_page.true)

pub returns-in_err-counted : goal.returns-in_err-counted
returns-in_err-counted c =
    let more = c.loop-test.true in
    rw c.from_residual.ensures
    (pages-over _ _ _ _ _ _ _ _ _ c.loop.invariant (omega arith) (sym c.is_page.ensures.test ∙ c.if-not-is_page.false) _ c.entry_count-count.ensures _
    c.in_err-counted.ensures refl)

pub returns-in_err-met : goal.returns-in_err-met
returns-in_err-met c =
    let more = c.loop-test.true in
    rw c.from_residual-in_err-met.ensures
    (pages-refused _ _ _ _ _ _ _ _ _ c.loop.invariant (omega arith) (sym c.is_page.ensures.test ∙ c.if-not-is_page.false) _ c.entry_count-count.ensures _
    c.in_ok-counted.ensures c.in_err-met.ensures)

pub loop-preserved : goal.loop-preserved
loop-preserved c =
    let more = c.loop-test.true in
    pages-on _ _ _ _ _ _ _ _ _ c.loop.invariant (omega arith) (sym c.is_page.ensures.test ∙ c.if-not-is_page.false) _ c.entry_count-count.ensures _
    c.in_ok-counted.ensures _ _ _ c.at.ensures.right (omega arith) c.in_ok-met.ensures

pub returns : goal.returns
returns c = pages-end _ _ _ _ _ _ _ _ _ c.loop.invariant (omega (arith, c.loop-test.false))
