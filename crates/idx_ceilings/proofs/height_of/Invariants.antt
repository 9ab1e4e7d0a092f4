-- `height_of`: `page` is `height` levels under the root by first children.
use Rattle.idx_ceilings.specs.KeyLaws.{HeightLeft}
use Rattle.idx_ceilings.proofs.height_of.Given as goal

abbrev pub invariant-loop-height : goal.invariant-loop-height
invariant-loop-height l = HeightLeft l.file.bytes.now l.file.key_length l.file.size l.fn.root.0 l.height l.page.0
