-- `IndexFile::first_entry`: the first entry, if there is one, lies within its page.
use Rattle.std.proofs.Common.{arith}
use Rattle.idx_page.specs.PageLaws.{entry-within}
use Rattle.idx_keys.specs.EntryLaws.{entries-within, first-key}
use Rattle.idx_keys.proofs.IndexFile.first_entry.Goals as goal

pub returns-clause-key : goal.returns-clause-key
returns-clause-key c = rw c.entry_offset.ensures (first-key _ _ _ _ _ c.entry_count.ensures c.if-entry_count-eq0.false)

pub returns-clause-inside : goal.returns-clause-inside
returns-clause-inside c =
    let some = c.if-entry_count-eq0.false in
    let w = entry-within {i = 0} ((entries-within _ _ _ _ _ c.entry_count.ensures c.args.self.now.inside).each 0 (omega arith)) in
    omega (arith, c.entry_offset.ensures)
