-- `all_records`: a good table has 1 to 128 fields.
use Rattle.std.proofs.Common.{rules, arith}
use Rattle.dbf_table.specs.TableLaws.{layout}
use Rattle.inspect_report.proofs.report.Report.all_records.Goals as goal

pub record_lines-problems-requires : goal.record_lines-problems-requires
record_lines-problems-requires g c =
    let some = (layout _ c.requires.0).header.some in
    search rules

pub loop-number-preserved : goal.loop-number-preserved
loop-number-preserved g c =
    let few = (layout _ c.requires.0).header.few in
    omega (arith, c.record_lines-problems.ensures, c.loop-number.invariant)
