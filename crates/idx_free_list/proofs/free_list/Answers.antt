-- `free_list`: a page that fits hands on to the next, one that does not ends the walk, and the last names none.
use Rattle.std.proofs.Common.{sym, ◌∙◌, arith}
use Rattle.idx_free_list.specs.FreeLaws.{fits_within, list-end, list_off, list_on}
use Rattle.idx_free_list.proofs.free_list.Goals as goal

pub returns-then-not-free_fits : goal.returns-then-not-free_fits
returns-then-not-free_fits c =
    let more = c.loop-test.true in
    list_off _ _ _ _ _ _ c.loop.invariant (omega arith) (sym c.free_fits.ensures ∙ c.if-not-free_fits.true)

pub at-requires : goal.at-requires
at-requires c =
    let inside = c.args.file.now.inside in
    omega (arith, fits_within _ _ _ (sym c.free_fits.ensures ∙ c.if-not-free_fits.false))

pub loop-preserved : goal.loop-preserved
loop-preserved c =
    let more = c.loop-test.true in
    list_on _ _ _ _ _ _ c.loop.invariant (omega arith) _ _ c.at.ensures.right (sym c.free_fits.ensures ∙ c.if-not-free_fits.false) (omega arith)

pub returns : goal.returns
returns c = list-end _ _ _ _ _ _ c.loop.invariant (omega (arith, c.loop-test.false))
