-- `tally_record`: nothing for a deleted record; else one line, by the record's own answer.
use Rattle.std.proofs.Common.{ℕ, sym, ap, ◌∙◌}
use Rattle.dilution.specs.DilutionLaws.{sheet_barcode, sheet_dilutable}
use Rattle.dilution.specs.StepLaws.{placed-mark}
use Rattle.dilute_sheet.specs.Tally.{refusals, tally}
use Rattle.dilute_sheet.specs.TallyLaws.{tally_deleted, tally-kept}
use Rattle.dilute_sheet.proofs.tally.tally_record.Goals as goal

pub place_at-place-requires : goal.place_at-place-requires
place_at-place-requires c = sheet_barcode _ _ _ _ c.requires.0 _ c.requires.1 c.requires.2

pub returns-then-place-eq-DELETED : goal.returns-then-place-eq-DELETED
returns-then-place-eq-DELETED c =
    let byte = placed-mark _ c.args.number _ _ c.place_at-place.ensures.0 in
    sym (tally_deleted c.args.table.now c.args.index.now c.args.request c.args.number (sym byte ∙ c.if-place-eq-DELETED.true))

pub record_dilution-answer-requires : goal.record_dilution-answer-requires
record_dilution-answer-requires c = sheet_dilutable _ _ _ _ c.requires.0 _ c.requires.1 c.requires.2

pub returns : goal.returns
returns c =
    let byte = placed-mark _ c.args.number _ _ c.place_at-place.ensures.0 in
    ap (λ (n : ℕ). tally 1 n) (c.count_refusal.ensures ∙ ap refusals c.record_dilution-answer.ensures)
    ∙ sym (tally-kept c.args.table.now c.args.index.now c.args.request c.args.number c.requires.0 c.requires.1 c.requires.2
    (λ e. c.if-place-eq-DELETED.false (byte ∙ e)))
