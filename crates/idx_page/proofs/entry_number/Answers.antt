-- The entry lies within its page, and the page within the buffer.
use Rattle.std.proofs.Common.{arith}
use Rattle.idx_page.specs.PageLaws.{entry-within}
use Rattle.idx_page.proofs.entry_number.Goals as goal

pub overflow_add-entry_offset : goal.overflow_add-entry_offset
overflow_add-entry_offset c = let w = entry-within c.requires in omega arith

pub load_be32-requires : goal.load_be32-requires
load_be32-requires c = let w = entry-within c.requires in omega arith
