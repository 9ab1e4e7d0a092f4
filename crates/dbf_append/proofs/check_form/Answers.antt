-- A good table has no refusal, and 10 is that of its length alone.
use Rattle.std.proofs.Common.{◌∙◌, sym, ap}
use Rattle.refusal.specs.Refusals.{refusal_number}
use Rattle.refusal.specs.RefusalLaws.{same-refusal}
use Rattle.refusal.specs.declared.Refusal.TheVariants as refusal
use Rattle.dbf_table.specs.TableLaws.{good_check, refused_check}
use Rattle.dbf_append.specs.ExtentLaws.{form-good, form_10, form-other}
use Rattle.dbf_append.proofs.check_form.Goals as goal

pub returns-in-Ok : goal.returns-in-Ok
returns-in-Ok c = sym (form-good _ (good_check _ _ (sym c.in-Ok.ensures)).0)

pub returns-in-TableLength : goal.returns-in-TableLength
returns-in-TableLength c =
    let said = refused_check _ _ (sym c.in-Err.ensures) in
    sym (form_10 _ (sym said.0 ∙ ap refusal_number c.in-TableLength.is))

pub returns-in_default : goal.returns-in_default
returns-in_default c =
    let said = refused_check _ _ (sym c.in-Err.ensures) in
    said.0
    ∙ sym (form-other _ (λ z. said.1 (said.0 ∙ z)) (λ z. c.in_default.not-TableLength (same-refusal _ refusal.TableLength (said.0 ∙ z))))
