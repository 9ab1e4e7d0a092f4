-- `entries_fit`: the entries of a leaf come after the last one of the page on its left.
use Rattle.std.proofs.Common.{sym, ◌∙◌}
use Rattle.idx_keys.specs.EntryLaws.{entries-within}
use Rattle.idx_shape.specs.StepLaws.{entries-leaf, entries-upper}
use Rattle.idx_shape.proofs.entries_fit.Goals as goal

pub leaf_entries-requires-clause-within : goal.leaf_entries-requires-clause-within
leaf_entries-requires-clause-within c = entries-within _ _ _ _ _ c.requires c.args.file.now.inside

pub returns-then-not-is_leaf : goal.returns-then-not-is_leaf
returns-then-not-is_leaf c =
    let a = c.args in
    rw c.if-not-is_leaf.true
    (entries-upper a.file.now.bytes.now a.file.now.key_length a.file.now.size a.attribute a.last.0 a.page.0 (sym c.is_leaf.ensures ∙ c.if-not-is_leaf.true))

pub returns-else-not-is_leaf : goal.returns-else-not-is_leaf
returns-else-not-is_leaf c =
    entries-leaf _ _ _ _ _ _ _ _ _ c.requires (sym c.is_leaf.ensures ∙ c.if-not-is_leaf.false) c.last_entry.ensures.pair c.leaf_entries.ensures
