-- A table that passes the checks has a shape; else the first that fails is the answer.
use Rattle.std.specs.Prelude.{Ok, Err}
use Rattle.std.proofs.Common.{ap, ◌∙◌, sym}
use Rattle.std.proofs.lemmas.Result.{err_from_is_err_and}
use Rattle.refusal.specs.RefusalLaws.{refusal-some}
use Rattle.dbf_table.specs.TableLaws.{layout, check_good, check_refused}
use Rattle.dbf_check.proofs.check_table.Goals as goal

pub returns-in_err-check_rules : goal.returns-in_err-check_rules
returns-in_err-check_rules c =
    let said = c.in_err-check_rules.ensures in
    let p = err_from_is_err_and c.from_residual.result c.from_residual.ensures.1 in
    rw (p.1, p.2) (ap Err said ∙ sym (check_refused _ (λ z. refusal-some _ (said ∙ z))))

pub shape_of-requires : goal.shape_of-requires
shape_of-requires c = (layout _ (sym c.in_ok-check_rules.ensures)).header.long

pub returns : goal.returns
returns c = ap Ok c.shape_of.ensures ∙ sym (check_good _ (sym c.in_ok-check_rules.ensures))
