-- `request_verdict`: the refusal alone, or the lines of all records.
use Rattle.std.proofs.Common.{sym, ◌∙◌}
use Rattle.std.proofs.lemmas.Result.{err_from_is_err_and}
use Rattle.refusal.specs.RefusalLaws.{refusal-some}
use Rattle.dilute_sheet.specs.TallyLaws.{verdict-alone, verdict_lines}
use Rattle.dilute_sheet.proofs.tally.request_verdict.Goals as goal

pub returns-in_err-check_sheet : goal.returns-in_err-check_sheet
returns-in_err-check_sheet c =
    let said = c.in_err-check_sheet.ensures in
    let p = err_from_is_err_and c.from_residual.result c.from_residual.ensures.1 in
    rw (p.1, p.2) (rw said (sym (verdict-alone c.args.table.now c.args.index.now c.args.request (λ none. refusal-some _ (said ∙ none)))))

pub tally_records-requires : goal.tally_records-requires
tally_records-requires c = sym c.in_ok-check_sheet.ensures

pub returns : goal.returns
returns c =
    rw c.tally_records.ensures (sym (verdict_lines c.args.table.now c.args.index.now c.args.request (sym c.in_ok-check_sheet.ensures)))
