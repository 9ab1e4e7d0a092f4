-- The record at the position is handed out or passed over by its mark, and the walk is done where none is left.
use Rattle.std.proofs.Common.{◌≡◌, ◌∙◌, true, false, ◌&&◌, eqb, ne_eqb, ⊎_elim}
use Rattle.dbf_table.specs.Table.{deleted_mark}
use Rattle.dbf_walk.specs.WalkLaws.{step-shown, step-over, step_end}
use Rattle.dbf_walk.proofs.step_from.Goals as goal

pub returns-then-not-mark : goal.returns-then-not-mark
returns-then-not-mark c =
    let shown : (c.args.skips && eqb c.mark_after-mark.result deleted_mark) ≡ false = ⊎_elim (λ both. rw (both.0, ne_eqb _ _ both.1)) (λ all. rw all) c.if-not-mark.either in
    rw c.loop-passed.invariant.0 at (c.loop-passed.invariant.1 ∙ step-shown _ _ _ _ _ c.loop-passed-test.true _ c.mark_after-mark.ensures _ shown c.step_at.ensures)

pub loop-passed-preserved : goal.loop-passed-preserved
loop-passed-preserved c =
    let over : (c.args.skips && eqb c.mark_after-mark.result deleted_mark) ≡ true = rw (c.if-not-mark.false.0, c.if-not-mark.false.1) in
    (c.loop-passed.invariant.0, c.loop-passed.invariant.1 ∙ step-over _ _ _ _ _ c.loop-passed-test.true _ c.mark_after-mark.ensures over)

pub returns : goal.returns
returns c =
    rw c.loop-passed.invariant.0 (rw c.loop-passed.invariant.0 at (c.loop-passed.invariant.1 ∙ step_end _ _ _ _ _ c.loop-passed-test.false))
