-- `ndx_audit::Walk::page` meets its contract, by induction on the levels under the page. Assumes nothing.
use Rattle.std.proofs.Common.{◌∙◌, refl, arith}
use Rattle.ndx_audit.specs.LoopLaws.{children_on}
use Rattle.ndx_audit.proofs.Walk.+page.Goals as goal

pub loop-i-preserved : goal.loop-i-preserved
loop-i-preserved t c =
    c.loop-i.invariant
    ∙ children_on _ _ _ _ _ _ (omega arith) _ (rw (c.in_ok-page.was, c.lower.ensures) at c.page.ensures) _ (rw c.in_ok-pass.was at c.pass.ensures) refl
