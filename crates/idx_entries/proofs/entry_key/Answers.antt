-- The key's bytes are the first of the entry.
use Rattle.std.proofs.Common.{arith, refl}
use Rattle.idx_page.specs.PageLaws.{entry-within}
use Rattle.idx_entries.proofs.GatherLaws.{part-window}
use Rattle.idx_entries.proofs.entry_key.Goals as goal

pub overflow_add-result : goal.overflow_add-result
overflow_add-result c = let w = entry-within c.requires in omega arith

pub slice_bounds-result-end : goal.slice_bounds-result-end
slice_bounds-result-end c = let w = entry-within c.requires in omega arith

pub returns-clause-value : goal.returns-clause-value
returns-clause-value c = rw (part-window _ _ _ _ refl, c.entry_offset-start.ensures)
