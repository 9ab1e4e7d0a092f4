-- `tally_records`: each record adds its line and its refusal. A table of a sheet that is not refused is good.
use Rattle.std.proofs.Common.{◌≡◌, ◌≤◌, ◌+◌, refl, ap, arith}
use Rattle.dbf_table.specs.TableLaws.{layout}
use Rattle.dilution.specs.BarcodeLaws.{good-table}
use Rattle.dilution.specs.DilutionLaws.{sheet_good}
use Rattle.dilute_sheet.specs.Tally.{lines_at, refused_at}
use Rattle.dilute_sheet.specs.TallyLaws.{lines_few, refused-few, sum-start, sum-next, sum-end, tally-end}
use Rattle.dilute_sheet.specs.declared.tally.Tally.{Tally}
use Rattle.dilute_sheet.proofs.tally.tally_records.Goals as goal

pub record_count-records-requires : goal.record_count-records-requires
record_count-records-requires c = (layout _ (good-table _ _ _ (sheet_good _ _ _ _ c.requires).matched)).header.long

pub loop-number-init : goal.loop-number-init
loop-number-init c = (
  omega arith,
  omega arith,
  sum-start (lines_at c.args.table.now) c.record_count-records.result _ refl,
  sum-start (refused_at c.args.table.now c.args.index.now c.args.request) c.record_count-records.result _ refl,
)

pub tally_record-one-requires : goal.tally_record-one-requires
tally_record-one-requires c = (c.requires, omega arith, omega (arith, c.record_count-records.ensures))

pub overflow_add-lines : goal.overflow_add-lines
overflow_add-lines c =
    let one = ap (λ (x : Tally). x.lines) c.tally_record-one.ensures in
    omega (arith, c.loop-number.invariant.0, one, lines_few c.args.table.now (c.loop-number.number + 1))

pub overflow_add-refused : goal.overflow_add-refused
overflow_add-refused c =
    let one = ap (λ (x : Tally). x.refused) c.tally_record-one.ensures in
    omega (arith, c.loop-number.invariant.1, one, refused-few c.args.table.now (c.loop-number.number + 1) c.args.index.now c.args.request)

pub loop-number-preserved : goal.loop-number-preserved
loop-number-preserved c =
    let line = ap (λ (x : Tally). x.lines) c.tally_record-one.ensures in
    let refusal = ap (λ (x : Tally). x.refused) c.tally_record-one.ensures in
    let records = c.record_count-records.result in (
      omega (arith, c.loop-number.invariant.0, line, lines_few c.args.table.now (c.loop-number.number + 1)),
      omega (arith, c.loop-number.invariant.1, refusal, refused-few c.args.table.now (c.loop-number.number + 1) c.args.index.now c.args.request),
      sum-next (lines_at c.args.table.now) records _ _ _ c.loop-number.invariant.2 (omega arith) _ line,
      sum-next (refused_at c.args.table.now c.args.index.now c.args.request) records _ _ _ c.loop-number.invariant.3 (omega arith) _ refusal,
    )

pub returns : goal.returns
returns c =
    let records = c.record_count-records.result in
    tally-end c.args.table.now c.args.index.now c.args.request records _ _ c.record_count-records.ensures
    (sum-end (lines_at c.args.table.now) records _ _ _ c.loop-number.invariant.2 (omega arith))
    (sum-end (refused_at c.args.table.now c.args.index.now c.args.request) records _ _ _ c.loop-number.invariant.3 (omega arith))
