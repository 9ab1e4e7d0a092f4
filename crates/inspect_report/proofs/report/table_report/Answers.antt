-- `table_report`: past the check the table is good, and the shape is its own. A good table has at most 128 fields, so their count fits 32 bits.
use Rattle.std.proofs.Common.{sym, arith}
use Rattle.dbf_table.specs.TableLaws.{layout, good_shape}
use Rattle.inspect_report.proofs.report.table_report.Goals as goal

pub overflow_cast-fields : goal.overflow_cast-fields
overflow_cast-fields g c =
    let said = good_shape _ _ (sym c.in-Ok.ensures) in
    let few = (layout _ said.table).header.few in
    omega (arith, said.fields)

pub all_records-requires : goal.all_records-requires
all_records-requires g c = let said = good_shape _ _ (sym c.in-Ok.ensures) in (said.table, said.records, said.fields)
