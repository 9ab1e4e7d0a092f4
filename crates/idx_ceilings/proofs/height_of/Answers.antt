-- `height_of`: a leaf ends the walk, another page hands on to its first child.
use Rattle.std.proofs.Common.{◌≡◌, sym, ◌∙◌, arith}
use Rattle.idx_ceilings.specs.KeyLaws.{height-end, height-leaf, height-on}
use Rattle.idx_ceilings.proofs.height_of.Goals as goal

pub returns-then-leaf_at : goal.returns-then-leaf_at
returns-then-leaf_at c = height-leaf _ _ _ _ _ _ c.loop-height.invariant c.loop-height-test.true (sym c.leaf_at.ensures ∙ c.if-leaf_at.true)

pub loop-height-preserved : goal.loop-height-preserved
loop-height-preserved c =
    height-on _ _ _ _ _ _ c.loop-height.invariant c.loop-height-test.true _ c.first_child-page.ensures (sym c.leaf_at.ensures ∙ c.if-leaf_at.false)

pub returns : goal.returns
returns c =
    let end : c.loop-height.height ≡ 14 = omega (arith, c.loop-height-test.false, c.loop-height.auto.height-end) in
    sym end ∙ height-end _ _ _ _ _ _ c.loop-height.invariant (omega (arith, end))
