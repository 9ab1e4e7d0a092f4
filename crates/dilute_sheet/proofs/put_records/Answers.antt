-- `put_records`: a record's line is the next one of the sheet. A table of a sheet that is not refused is good.
use Rattle.std.proofs.Common.{◌≡◌, ◌-◌, [], refl, sym, ◌∙◌, arith}
use Rattle.dbf_table.specs.TableLaws.{layout}
use Rattle.dilution.specs.BarcodeLaws.{good-table}
use Rattle.dilution.specs.DilutionLaws.{sheet_good}
use Rattle.dilute_sheet.specs.OutputLaws.{wrote_none, wrote_then, wrote-ends}
use Rattle.dilute_sheet.specs.SheetLaws.{lines_more, lines_end}
use Rattle.dilute_sheet.proofs.put_records.Goals as goal

pub record_count-records-requires : goal.record_count-records-requires
record_count-records-requires c = (layout _ (good-table _ _ _ (sheet_good _ _ _ _ c.requires).matched)).header.long

pub loop-number-init : goal.loop-number-init
loop-number-init c =
    let all : c.record_count-records.result - 0 ≡ c.record_count-records.result = omega arith in
    (refl, omega arith, rw all)

pub put_record-end-requires : goal.put_record-end-requires
put_record-end-requires c = (c.requires, omega arith, omega (arith, c.record_count-records.ensures), c.loop-number.invariant.1)

pub loop-number-preserved : goal.loop-number-preserved
loop-number-preserved c =
    let ends = wrote-ends _ _ _ _ _ c.put_record-end.ensures in
    let more = lines_more c.args.table.now c.args.index.now c.args.request c.record_count-records.result c.loop-number.number (omega arith) in
    (ends.0 ∙ c.loop-number.invariant.0, ends.1, sym (wrote_then _ _ _ _ _ _ c.put_record-end.ensures) ∙ rw more at c.loop-number.invariant.2)

pub returns : goal.returns
returns c =
    let none = lines_end c.args.table.now c.args.index.now c.args.request c.record_count-records.result c.loop-number.number (omega arith) in
    rw (sym c.record_count-records.ensures) (sym (rw none at c.loop-number.invariant.2) ∙ wrote_none _ _ [] c.loop-number.invariant.1)
