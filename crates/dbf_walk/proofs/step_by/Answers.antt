-- By the case of the table's check.
use Rattle.std.proofs.Common.{sym, ◌∙◌}
use Rattle.std.proofs.lemmas.Result.{err_from_is_err_and}
use Rattle.dbf_table.specs.TableLaws.{good_shape}
use Rattle.dbf_walk.specs.WalkLaws.{step-good, step-refused}
use Rattle.dbf_walk.proofs.step_by.Goals as goal

pub returns-in_err-shape : goal.returns-in_err-shape
returns-in_err-shape c =
    let p = err_from_is_err_and c.from_residual.result c.from_residual.ensures.1 in
    rw (p.1, p.2) (step-refused _ _ _ _ (sym c.in_err-shape.ensures))

pub step_from-requires : goal.step_from-requires
step_from-requires c =
    let good = good_shape _ _ (sym c.in_ok-shape.ensures) in
    (good.table, good.records)

pub returns : goal.returns
returns c = step-good _ _ _ _ (sym c.in_ok-shape.ensures) ∙ c.step_from.ensures
