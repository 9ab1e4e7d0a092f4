-- The key of the last entry that is read, if there is one.
use Rattle.std.proofs.Common.{sym, ◌∙◌, arith}
use Rattle.idx_leaf.specs.EntryLaws.{listed-within}
use Rattle.idx_leaf.specs.SearchLaws.{counted-some}
use Rattle.idx_entries.proofs.GatherLaws.{last-listed, no_last, within-last}
use Rattle.idx_entries.proofs.last_key.Goals as goal

pub returns-then-count-eq0-clause-value : goal.returns-then-count-eq0-clause-value
returns-then-count-eq0-clause-value c = sym (no_last _ _ (sym c.entry_count-count.ensures ∙ c.if-count-eq0.true))

pub entry_key-requires : goal.entry_key-requires
entry_key-requires c =
    within-last (listed-within (counted-some c.requires c.entry_count-count.ensures c.if-count-eq0.false)) c.if-count-eq0.false

pub returns-clause-value : goal.returns-clause-value
returns-clause-value c =
    c.entry_key.ensures.value
    ∙ last-listed (counted-some c.requires c.entry_count-count.ensures c.if-count-eq0.false) c.args.key.now (omega (arith, c.if-count-eq0.false))
