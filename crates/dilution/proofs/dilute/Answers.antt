-- The sheet's checks, the barcode's length, its record, and then by the record.
use Rattle.std.proofs.Common.{sym, ◌∙◌, ap, arith, Err}
use Rattle.std.proofs.lemmas.Result.{err_from_is_err_and}
use Rattle.refusal.specs.RefusalLaws.{refusal-some}
use Rattle.idx_page.specs.HeaderLaws.{good-header}
use Rattle.dilution.specs.BarcodeLaws.{known, record_named}
use Rattle.dilution.specs.DilutionLaws.{sheet_good, sheet_dilutable, dilute_refused, dilute_27, dilute_absent, dilute_record}
use Rattle.dilution.proofs.dilute.Goals as goal

pub returns-in_err-check_sheet : goal.returns-in_err-check_sheet
returns-in_err-check_sheet c =
    let said = c.in_err-check_sheet.ensures in
    let p = err_from_is_err_and c.from_residual.result c.from_residual.ensures.1 in
    rw (p.1, p.2) (ap Err said ∙ sym (dilute_refused _ _ _ _ _ _ _ (λ e. refusal-some _ (said ∙ e))))

pub key_length-requires : goal.key_length-requires
key_length-requires c = (good-header _ (known _ _ _ (sheet_good _ _ _ _ (sym c.in_ok-check_sheet.ensures)).matched).header).long

pub returns-then-barcode-key_length : goal.returns-then-barcode-key_length
returns-then-barcode-key_length c =
    sym (dilute_27 _ _ _ _ _ _ _ (sym c.in_ok-check_sheet.ensures) (λ e. c.if-barcode-key_length.true (e ∙ sym c.key_length.ensures)))

pub record_with-number-requires : goal.record_with-number-requires
record_with-number-requires c =
    ((known _ _ _ (sheet_good _ _ _ _ (sym c.in_ok-check_sheet.ensures)).matched).header, c.if-barcode-key_length.false ∙ c.key_length.ensures)

pub returns-then-number-eq0 : goal.returns-then-number-eq0
returns-then-number-eq0 c =
    sym (dilute_absent _ _ _ _ _ _ _ (sym c.in_ok-check_sheet.ensures) (c.if-barcode-key_length.false ∙ c.key_length.ensures) _
    c.record_with-number.ensures c.if-number-eq0.true)

pub record_dilution-requires : goal.record_dilution-requires
record_dilution-requires c =
    let sheet = sym c.in_ok-check_sheet.ensures in
    let number = c.record_with-number.ensures in
    let good = sheet_good _ _ _ _ sheet in
    let named = record_named c.args.table.now c.args.index.now c.args.barcode_field good.matched good.distinct c.args.barcode.now
    (c.if-barcode-key_length.false ∙ c.key_length.ensures) (omega (arith, c.if-number-eq0.false, number)) in
    sheet_dilutable _ _ _ _ sheet c.record_with-number.result (omega (arith, named.0, number)) (omega (arith, named.1, number))

pub returns : goal.returns
returns c =
    c.record_dilution.ensures
    ∙ sym (dilute_record _ _ _ _ _ _ _ (sym c.in_ok-check_sheet.ensures) (c.if-barcode-key_length.false ∙ c.key_length.ensures) _
    c.record_with-number.ensures c.if-number-eq0.false)
