-- `sheet_verdict`: by the case of the input.
use Rattle.std.proofs.Common.{refl}
use Rattle.std.proofs.lemmas.Result.{err_from_is_err_and}
use Rattle.dilute_sheet.specs.Tally.{input_verdict, verdict_of}
use Rattle.dilute_sheet.proofs.tally.sheet_verdict.Goals as goal

pub returns-in_err-request : goal.returns-in_err-request
unfolding verdict_of input_verdict
returns-in_err-request c =
    let p = err_from_is_err_and c.from_residual.result c.from_residual.ensures.1 in
    rw (p.1, p.2) (rw (← c.in_err-request.ensures.case))

pub returns : goal.returns
unfolding verdict_of input_verdict
returns c = rw (← c.in_ok-request.ensures.case) c.request_verdict.ensures
