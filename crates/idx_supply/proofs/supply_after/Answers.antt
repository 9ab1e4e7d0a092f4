-- Each turn takes one page of the rule's.
use Rattle.std.proofs.Common.{sym, ◌∙◌, arith}
use Rattle.idx_supply.specs.SupplyLaws.{taken_lasts, after_on, after-end}
use Rattle.idx_supply.proofs.supply_after.Goals as goal

pub take_page-requires : goal.take_page-requires
take_page-requires c = omega (arith, c.loop.invariant.0, c.loop-test.true)

pub loop-preserved : goal.loop-preserved
loop-preserved c =
    rw c.take_page.ensures (
      taken_lasts _ _ c.loop.rest (omega (arith, c.loop.invariant.0, c.loop-test.true)),
      c.loop.invariant.1 ∙ after_on c.args.count c.loop.counter c.args.index.now c.loop.rest c.loop-test.true,
    )

pub returns : goal.returns
returns c = sym (c.loop.invariant.1 ∙ after-end _ c.loop.counter _ c.loop.rest c.loop-test.false)
