-- It stores if the page has entry i and the comparison says that its key is below.
use Rattle.std.proofs.Common.{sym, ◌∙◌, arith}
use Rattle.idx_page.specs.PageLaws.{within-entry, entry-within}
use Rattle.idx_leaf.specs.EntryLaws.{listed-within}
use Rattle.idx_entries.proofs.GatherLaws.{counted, lower, not-lower, raised-none, raised-here, raised_not}
use Rattle.idx_entries.proofs.raise_key.Goals as goal

pub returns-then-entry_count-i : goal.returns-then-entry_count-i
returns-then-entry_count-i c = raised-none c.args.key.now (counted c.requires c.entry_count.ensures) c.if-entry_count-i.true

pub compare_entry-requires : goal.compare_entry-requires
compare_entry-requires c = within-entry _ (listed-within (counted c.requires c.entry_count.ensures)) c.if-entry_count-i.false

pub entry_offset-requires : goal.entry_offset-requires
entry_offset-requires c =
    let w = listed-within (counted c.requires c.entry_count.ensures) in (w.key, omega (arith, w.count, c.if-entry_count-i.false))

pub copy_in-requires : goal.copy_in-requires
copy_in-requires c =
    let w = entry-within (within-entry _ (listed-within (counted c.requires c.entry_count.ensures)) c.if-entry_count-i.false) in
    omega (arith, w.inside, c.entry_offset.ensures)

pub returns-then-is_lt : goal.returns-then-is_lt
returns-then-is_lt c =
    raised-here c.args.key.now (counted c.requires c.entry_count.ensures) c.if-entry_count-i.false
    (lower _ _ c.compare_entry.ensures (sym c.is_lt.ensures ∙ c.if-is_lt.true)) c.entry_offset.ensures c.copy_in.ensures

pub returns-else-is_lt : goal.returns-else-is_lt
returns-else-is_lt c =
    raised_not c.args.key.now (counted c.requires c.entry_count.ensures) c.if-entry_count-i.false
    (not-lower _ _ c.compare_entry.ensures (sym c.is_lt.ensures ∙ c.if-is_lt.false))
