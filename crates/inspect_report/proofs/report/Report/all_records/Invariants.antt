-- `all_records`: each record counts at most as much as the table has fields.
use Rattle.std.proofs.Common.{◌*◌, ◌≤◌}
use Rattle.dbf_table.specs.Table.{max_fields}
use Rattle.inspect_report.proofs.report.Report.all_records.Given as goal

abbrev pub invariant-loop-number : goal.invariant-loop-number
invariant-loop-number g l = l.problems ≤ max_fields * l.number
