-- The offset is 1 and the lengths of the fields passed.
use Rattle.std.proofs.Common.{◌≡◌, ◌+◌, ◌*◌, ◌≤◌}
use Rattle.dbf_table.specs.Range.{sum_below}
use Rattle.dbf_table.specs.Table.{field_length}
use Rattle.dbf_fields.proofs.field_offset.Given as goal

abbrev pub invariant-loop-i : goal.invariant-loop-i
invariant-loop-i l = (l.offset ≤ 1 + 255 * l.i) × (l.offset ≡ 1 + sum_below (field_length l.table) l.i)
