-- The field starts where the last entry ends, in a record of at most 4,000 bytes.
use Rattle.std.proofs.Common.{arith}
use Rattle.dbf_table.specs.TableLaws.{layout}
use Rattle.dbf_table.specs.RecordLaws.{descriptor-inside}
use Rattle.dbf_calls.specs.LentLaws.{last-starts}
use Rattle.dbf_calls.proofs.next_entry.Goals as goal

pub overflow_add-last : goal.overflow_add-last
overflow_add-last c =
    let starts = last-starts _ _ _ c.requires.0 c.requires.1 c.requires.2 in
    omega (arith, starts.small)

pub entry_from-requires : goal.entry_from-requires
entry_from-requires c =
    (descriptor-inside _ (layout _ c.requires.0) _ c.requires.1, (last-starts _ _ _ c.requires.0 c.requires.1 c.requires.2).place)
