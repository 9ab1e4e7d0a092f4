-- The number of entry 0, if there is one.
use Rattle.std.proofs.Common.{arith}
use Rattle.idx_page.proofs.ReadingLaws.{each_within, first-none, first_some}
use Rattle.idx_page.proofs.first_child.Goals as goal

pub child-requires : goal.child-requires
child-requires c = each_within _ _ _ _ _ c.entry_count.ensures c.requires.0 c.requires.1 0 (omega arith)

pub returns-then-entry_count-eq0 : goal.returns-then-entry_count-eq0
returns-then-entry_count-eq0 c = first-none _ _ _ _ _ c.entry_count.ensures c.if-entry_count-eq0.true

pub returns : goal.returns
returns c = first_some _ _ _ _ _ _ c.entry_count.ensures c.if-entry_count-eq0.false c.child.ensures
