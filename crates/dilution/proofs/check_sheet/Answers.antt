-- Table and header, the match's answer, and then the field's.
use Rattle.std.proofs.Common.{sym, ◌∙◌}
use Rattle.std.proofs.lemmas.Result.{err_from_is_err_and}
use Rattle.refusal.specs.RefusalLaws.{refusal-some}
use Rattle.idx_match.proofs.AnswerLaws.{answer-computed}
use Rattle.dilution.specs.BarcodeLaws.{good-table}
use Rattle.dilution.specs.DilutionLaws.{sheet_unread, sheet_unmatched, sheet_matched}
use Rattle.dilution.proofs.check_sheet.Goals as goal

pub returns-in_err-check_headers : goal.returns-in_err-check_headers
returns-in_err-check_headers c =
    let said = c.in_err-check_headers.ensures in
    let p = err_from_is_err_and c.from_residual.result c.from_residual.ensures.1 in
    rw (p.1, p.2) (said ∙ sym (sheet_unread _ _ _ _ (λ e. refusal-some _ (said ∙ e))))

pub returns-in_err-match_index : goal.returns-in_err-match_index
returns-in_err-match_index c =
    let said = (answer-computed c.args.table.now c.args.index.now c.args.barcode_field _).0 c.in_err-match_index.ensures in
    let p = err_from_is_err_and c.from_residual-in_err-match_index.result c.from_residual-in_err-match_index.ensures.1 in
    rw (p.1, p.2) (said ∙ sym (sheet_unmatched _ _ _ _ (sym c.in_ok-check_headers.ensures) (λ e. refusal-some _ (said ∙ e))))

pub check_field-requires : goal.check_field-requires
check_field-requires c =
    good-table _ _ _ (sym ((answer-computed c.args.table.now c.args.index.now c.args.barcode_field _).0 c.in_ok-match_index.ensures))

pub returns : goal.returns
returns c =
    let matched = (answer-computed c.args.table.now c.args.index.now c.args.barcode_field _).0 c.in_ok-match_index.ensures in
    c.check_field.ensures ∙ sym (sheet_matched _ _ _ _ (sym c.in_ok-check_headers.ensures) (sym matched))
