-- `root_level`: the level has one page, the root.
use Rattle.std.proofs.Common.{ap, sym, ◌∙◌, None, Some}
use Rattle.idx_shape.specs.State.{progress_of, known}
use Rattle.idx_shape.specs.PassLaws.{root-closed}
use Rattle.idx_shape.proofs.root_level.Goals as goal

pub returns-in_err-met : goal.returns-in_err-met
returns-in_err-met c =
    rw c.from_residual.ensures
    (ap known (sym (root-closed _ _ _ _ c.args.root _ _ (progress_of None) c.leaf_at-leaf.ensures c.requires c.attribute_of.ensures
    (rw c.start-start.ensures at c.in_err-met.ensures))))

pub returns : goal.returns
returns c =
    c.closed.ensures
    ∙ ap known (sym (root-closed _ _ _ _ c.args.root _ _ (progress_of (Some c.in_ok-met.met)) c.leaf_at-leaf.ensures c.requires c.attribute_of.ensures
    (rw c.start-start.ensures at c.in_ok-met.ensures)))
