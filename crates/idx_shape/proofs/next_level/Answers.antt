-- `next_level`: the level has a row for the children of each page of the level above.
use Rattle.std.proofs.Common.{ap, sym, ◌∙◌, None, Some}
use Rattle.idx_shape.specs.State.{progress_of, known}
use Rattle.idx_shape.specs.PassLaws.{next-closed}
use Rattle.idx_shape.proofs.next_level.Goals as goal

pub returns-in_err-met : goal.returns-in_err-met
returns-in_err-met c =
    rw c.from_residual.ensures
    (ap known (sym (next-closed _ _ _ _ c.first_child-first.result _ _
    (progress_of None) c.leaf_at-leaf.ensures _ c.first_child-first.ensures c.attribute_of.ensures
    (rw c.start-start.ensures at c.in_err-met.ensures))))

pub returns : goal.returns
returns c =
    c.closed.ensures
    ∙ ap known (sym (next-closed _ _ _ _ c.first_child-first.result _ _
    (progress_of (Some c.in_ok-met.met)) c.leaf_at-leaf.ensures _ c.first_child-first.ensures
    c.attribute_of.ensures (rw c.start-start.ensures at c.in_ok-met.ensures)))
