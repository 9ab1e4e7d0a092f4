-- `first_leaf`: a leaf ends the walk, another page hands on to its first child.
use Rattle.std.proofs.Common.{refl, sym, ◌∙◌, arith}
use Rattle.idx_match.specs.StepLaws.{first_stop, first-end, first_on}
use Rattle.idx_match.proofs.first_leaf.Goals as goal

pub loop-init : goal.loop-init
loop-init c = rw c.root-page.ensures refl

pub returns-then-leaf_at : goal.returns-then-leaf_at
returns-then-leaf_at c = first_stop _ _ _ _ _ _ c.loop.invariant (sym c.leaf_at.ensures ∙ c.if-leaf_at.true)

pub loop-preserved : goal.loop-preserved
loop-preserved c =
    let more = c.loop-test.true in
    first_on _ _ _ _ _ _ c.loop.invariant _ _ (omega arith) (sym c.leaf_at.ensures ∙ c.if-leaf_at.false) c.first_child-page.ensures

pub returns : goal.returns
returns c = first-end _ _ _ _ _ _ c.loop.invariant (omega (arith, c.loop-test.false))
