-- `check_children`: the children from entry `entry` on, from what is known now, come to what all come to.
use Rattle.std.specs.Prelude.{Some}
use Rattle.idx_shape.specs.PassLaws.{ChildrenLeft}
use Rattle.idx_shape.specs.State.{progress_of}
use Rattle.idx_shape.proofs.check_children.Given as goal

abbrev pub invariant-loop-entry : goal.invariant-loop-entry
invariant-loop-entry l =
    ChildrenLeft l.file.bytes.now l.file.key_length l.file.size l.attribute l.parent.0 l.count l.entry (progress_of (Some l.fn.start)) (progress_of (Some l.met))
