-- A refusal changes nothing, and else the stores are made.
use Rattle.std.proofs.Common.{◌∙◌, sym}
use Rattle.std.proofs.lemmas.Result.{err_from_is_err_and}
use Rattle.refusal.specs.RefusalLaws.{refusal-some}
use Rattle.dbf_append.specs.CheckLaws.{accepted, appendable, append_stored, append_refused}
use Rattle.dbf_append.proofs.append.Goals as goal

pub returns-in_err-check_append : goal.returns-in_err-check_append
returns-in_err-check_append c =
    let p = err_from_is_err_and c.from_residual.result c.from_residual.ensures.1 in
    rw (p.1, p.2) (append_refused _ _ _ _ c.in_err-check_append.ensures (refusal-some _))

pub store_record-requires : goal.store_record-requires
store_record-requires c = appendable _ _ _ (accepted _ _ _ (sym c.in_ok-check_append.ensures))

pub returns : goal.returns
returns c = append_stored _ _ _ (sym c.in_ok-check_append.ensures) ∙ c.store_record.ensures
