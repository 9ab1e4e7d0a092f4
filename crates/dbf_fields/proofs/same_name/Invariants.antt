-- The names agree in the bytes passed, or not.
use Rattle.std.proofs.Common.{◌≡◌}
use Rattle.dbf_table.specs.Range.{all_below}
use Rattle.dbf_table.specs.Table.{same_byte}
use Rattle.dbf_fields.proofs.same_name.Given as goal

abbrev pub invariant-loop-k : goal.invariant-loop-k
invariant-loop-k l = l.same ≡ all_below (same_byte l.table l.fn.i l.fn.j) l.k
