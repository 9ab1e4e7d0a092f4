-- Each entry that is read is stored.
use Rattle.std.proofs.Common.{◌∙◌}
use Rattle.idx_page.proofs.ReadingLaws.{length-numbered}
use Rattle.idx_leaf.proofs.entry_count.Goals as goal

pub returns : goal.returns
returns c = c.entry_count.ensures ∙ length-numbered _ _ _ _
