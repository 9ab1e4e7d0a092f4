-- `check_children`: a child that fits hands on to the next, one that does not ends the pass.
use Rattle.std.proofs.Common.{arith}
use Rattle.idx_keys.specs.EntryLaws.{entries-within}
use Rattle.idx_shape.specs.PassLaws.{children-end, children-on, children_stop}
use Rattle.idx_shape.proofs.check_children.Goals as goal

pub child-child-requires : goal.child-child-requires
child-child-requires c = (entries-within _ _ _ _ _ c.requires c.args.file.now.inside).each c.loop-entry.entry (omega (arith, c.loop-entry-test.true))

pub returns-in_err-met : goal.returns-in_err-met
returns-in_err-met c =
    rw c.from_residual.ensures
    (children_stop _ _ _ _ _ _ _ _ _ c.loop-entry.invariant c.requires _ (omega (arith, c.loop-entry-test.true)) c.child-child.ensures c.in_err-met.ensures)

pub loop-entry-preserved : goal.loop-entry-preserved
loop-entry-preserved c =
    children-on _ _ _ _ _ _ _ _ _ c.loop-entry.invariant _ _ (omega (arith, c.loop-entry-test.true)) c.child-child.ensures c.in_ok-met.ensures

pub returns : goal.returns
returns c = children-end _ _ _ _ _ _ _ _ _ c.loop-entry.invariant c.requires c.loop-entry-test.false
