-- `IndexFile::last_entry`: the last entry, if there is one, lies within its page.
use Rattle.std.proofs.Common.{◌-◌, arith}
use Rattle.idx_page.specs.PageLaws.{entry-within}
use Rattle.idx_keys.specs.EntryLaws.{entries-within, last-key, last-pair}
use Rattle.idx_keys.proofs.IndexFile.last_entry.Goals as goal

pub entry_offset-requires : goal.entry_offset-requires
entry_offset-requires c =
    let n = c.entry_count-count in
    let some = c.if-count-eq0.false in
    let w = (entries-within _ _ _ _ _ n.ensures c.args.self.now.inside).each (n.result - 1) (omega arith) in
    omega arith

pub returns-clause-key : goal.returns-clause-key
returns-clause-key c = rw c.entry_offset.ensures (last-key _ _ _ _ _ c.entry_count-count.ensures c.if-count-eq0.false)

pub returns-clause-pair : goal.returns-clause-pair
returns-clause-pair c = rw c.entry_offset.ensures (last-pair _ _ _ _ _ c.entry_count-count.ensures c.if-count-eq0.false)

pub returns-clause-inside : goal.returns-clause-inside
returns-clause-inside c =
    let n = c.entry_count-count in
    let some = c.if-count-eq0.false in
    let w = entry-within ((entries-within _ _ _ _ _ n.ensures c.args.self.now.inside).each (n.result - 1) (omega arith)) in
    omega (arith, c.entry_offset.ensures)
