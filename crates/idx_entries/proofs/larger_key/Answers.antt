-- The comparison says which of the two keys is larger.
use Rattle.std.proofs.Common.{sym, ◌∙◌}
use Rattle.idx_entries.proofs.GatherLaws.{lower, not-lower, larger-key, larger-entry}
use Rattle.idx_entries.proofs.larger_key.Goals as goal

pub returns-then-is_lt-clause-value : goal.returns-then-is_lt-clause-value
returns-then-is_lt-clause-value c = larger-key _ _ (lower _ _ c.compare_entry.ensures (sym c.is_lt.ensures ∙ c.if-is_lt.true))

pub returns-clause-value : goal.returns-clause-value
returns-clause-value c =
    c.entry_key.ensures.value ∙ larger-entry _ _ (not-lower _ _ c.compare_entry.ensures (sym c.is_lt.ensures ∙ c.if-is_lt.false))
