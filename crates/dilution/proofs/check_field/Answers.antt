-- 12 is the answer of the entry's call, 13 by its type and decimals.
use Rattle.std.proofs.Common.{sym, ◌∙◌}
use Rattle.std.proofs.lemmas.Result.{err_from_is_err_and}
use Rattle.dilution.specs.StepLaws.{field_12, field_tested}
use Rattle.dilution.proofs.check_field.Goals as goal

pub returns-in_err-entry : goal.returns-in_err-entry
returns-in_err-entry c =
    let p = err_from_is_err_and c.from_residual.result c.from_residual.ensures.1 in
    rw (p.1, p.2) (field_12 _ _ c.requires _ (sym c.in_err-entry.ensures))

pub returns-then-is_concentration : goal.returns-then-is_concentration
returns-then-is_concentration c = sym (field_tested _ _ c.requires _ (sym c.in_ok-entry.ensures) ∙ rw (sym c.if-is_concentration.ensures))

pub returns-else-is_concentration : goal.returns-else-is_concentration
returns-else-is_concentration c = sym (field_tested _ _ c.requires _ (sym c.in_ok-entry.ensures) ∙ rw (sym c.if-is_concentration.ensures))
