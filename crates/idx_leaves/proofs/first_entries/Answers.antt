-- `first_entries`: the first entry has a record number, and the later ones come after it.
use Rattle.std.proofs.Common.{arith}
use Rattle.idx_leaves.specs.LeafLaws.{leaf-inside, no-entry, first-zero, first-later}
use Rattle.idx_leaves.proofs.first_entries.Goals as goal

pub returns-then-count-eq0 : goal.returns-then-count-eq0
returns-then-count-eq0 c = let a = c.args in no-entry a.file.now.bytes.now a.file.now.key_length a.page.0 a.count c.if-count-eq0.true

pub record_at-requires : goal.record_at-requires
record_at-requires c =
    leaf-inside _ _ _ _ 0 _ c.requires (omega (arith, c.if-count-eq0.false)) c.entry_offset-first.ensures

pub later_entries-requires-clause-before : goal.later_entries-requires-clause-before
later_entries-requires-clause-before c =
    leaf-inside _ _ _ _ 0 _ c.requires (omega (arith, c.if-count-eq0.false)) c.entry_offset-first.ensures

pub returns-then-record_at-ne0 : goal.returns-then-record_at-ne0
returns-then-record_at-ne0 c =
    first-later _ _ _ _ _ _ c.if-count-eq0.false c.entry_offset-first.ensures c.record_at.ensures c.if-record_at-ne0.true _ c.later_entries.ensures

pub returns-else-record_at-ne0 : goal.returns-else-record_at-ne0
returns-else-record_at-ne0 c =
    rw c.if-record_at-ne0.false
    (first-zero _ _ _ _ _ _ c.if-count-eq0.false c.entry_offset-first.ensures c.record_at.ensures c.if-record_at-ne0.false)
