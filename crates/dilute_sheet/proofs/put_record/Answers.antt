-- `put_record`: nothing for a deleted record; else the barcode, and the answer behind it.
use Rattle.std.proofs.Common.{[], sym, ◌∙◌}
use Rattle.dilution.specs.DilutionLaws.{sheet_barcode, sheet_dilutable}
use Rattle.dilution.specs.StepLaws.{placed-mark}
use Rattle.dilute_sheet.specs.OutputLaws.{wrote_none, wrote_then}
use Rattle.dilute_sheet.specs.SheetLaws.{line_deleted, line_kept, placed-bytes}
use Rattle.dilute_sheet.proofs.put_record.Goals as goal

pub place_at-place-requires : goal.place_at-place-requires
place_at-place-requires c = sheet_barcode _ _ _ _ c.requires.0 _ c.requires.1 c.requires.2

pub returns-then-place-eq-DELETED : goal.returns-then-place-eq-DELETED
returns-then-place-eq-DELETED c =
    let byte = placed-mark _ c.args.number _ _ c.place_at-place.ensures.0 in
    rw (line_deleted c.args.table.now c.args.index.now c.args.request c.args.number (sym byte ∙ c.if-place-eq-DELETED.true)) (wrote_none _ _ [] c.requires.3)

pub record_dilution-answer-requires : goal.record_dilution-answer-requires
record_dilution-answer-requires c = sheet_dilutable _ _ _ _ c.requires.0 _ c.requires.1 c.requires.2

pub returns : goal.returns
returns c =
    let byte = placed-mark _ c.args.number _ _ c.place_at-place.ensures.0 in
    let line = line_kept c.args.table.now c.args.index.now c.args.request c.args.number c.requires.0 c.requires.1 c.requires.2
    (λ e. c.if-place-eq-DELETED.false (byte ∙ e)) in
    let bytes = placed-bytes c.args.table.now c.args.number c.args.request.barcode_field _ c.place_at-place.ensures.0 in
    rw line (wrote_then _ _ _ _ _ _ (rw bytes at c.put-end.ensures) ∙ rw c.record_dilution-answer.ensures at c.put_answer.ensures)
