-- A refusal, or what stands at the field's place.
use Rattle.std.proofs.Common.{sym, ◌∙◌}
use Rattle.std.proofs.lemmas.Result.{err_from_is_err_and}
use Rattle.dbf_cell.specs.declared.Reads.TheVariants.{Dates}
use Rattle.dbf_cell.specs.CellLaws.{cell_at, date-refused, date-read}
use Rattle.dbf_cell.proofs.read_date.Goals as goal

pub returns-in_err-place : goal.returns-in_err-place
returns-in_err-place c =
    let p = err_from_is_err_and c.from_residual.result c.from_residual.ensures.1 in
    rw (p.1, p.2) (sym (date-refused _ _ _ _ (sym c.in_err-place.ensures)))

pub date_at-requires : goal.date_at-requires
date_at-requires c = (cell_at Dates _ _ _ _ (sym c.in_ok-place.ensures)).within

pub returns : goal.returns
returns c = c.date_at.ensures ∙ sym (date-read _ _ _ _ (sym c.in_ok-place.ensures))
