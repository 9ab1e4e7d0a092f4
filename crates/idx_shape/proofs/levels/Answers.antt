-- `levels`: a level of leaves is the last, another hands on to the level under it, and one that is not good ends the pass.
use Rattle.std.proofs.Common.{arith}
use Rattle.idx_shape.specs.PassLaws.{come-bad, come-leaf, come-first, come-first-bad, come-leaf-later, come-later, come-later-bad, come-end}
use Rattle.idx_shape.proofs.levels.Goals as goal

pub returns-in_err-top : goal.returns-in_err-top
returns-in_err-top c = rw c.from_residual.ensures (come-bad _ _ _ _ c.in_err-top.ensures)

pub returns-then-top : goal.returns-then-top
returns-then-top c = come-leaf _ _ _ _ _ c.in_ok-top.ensures c.if-top.true

pub returns-in_err-level : goal.returns-in_err-level
returns-in_err-level c =
    rw c.from_residual-in_err-level.ensures (come-first-bad _ _ _ _ _ c.in_ok-top.ensures c.if-top.false c.in_err-level.ensures)

pub returns-then-level : goal.returns-then-level
returns-then-level c =
    come-leaf-later _ _ _ _ _ _ _ (come-first _ _ _ _ _ c.in_ok-top.ensures c.if-top.false _ c.in_ok-level.ensures) c.loop.invariant c.if-level.true

pub returns-in_err-level-2 : goal.returns-in_err-level-2
returns-in_err-level-2 c =
    let more = c.loop-test.true in
    rw c.from_residual-in_err-level-2.ensures
    (come-later-bad _ _ _ _ _ _ _ (come-first _ _ _ _ _ c.in_ok-top.ensures c.if-top.false _ c.in_ok-level.ensures) c.loop.invariant (omega arith)
    c.if-level.false c.in_err-level-2.ensures)

pub loop-preserved : goal.loop-preserved
loop-preserved c =
    let more = c.loop-test.true in
    come-later _ _ _ _ _ _ c.loop.invariant _ (omega arith) c.if-level.false _ c.in_ok-level-2.ensures

pub returns : goal.returns
returns c =
    come-end _ _ _ _ _ _ _ (come-first _ _ _ _ _ c.in_ok-top.ensures c.if-top.false _ c.in_ok-level.ensures) c.loop.invariant
    (omega (arith, c.loop-test.false))
