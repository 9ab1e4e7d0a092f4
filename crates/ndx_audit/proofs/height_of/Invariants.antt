-- In `ndx_audit::height_of` the page is `height` levels under the root by first lower pages.
use Rattle.ndx_audit.specs.LoopLaws.{HeightLeft}
use Rattle.ndx_audit.proofs.height_of.Given as goal

abbrev pub invariant-loop-height : goal.invariant-loop-height
invariant-loop-height l = HeightLeft l.index.bytes.now l.initial.page.0 l.height l.page.0
