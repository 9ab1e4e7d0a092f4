-- The tests are the rule's, in the rule's order.
use Rattle.std.proofs.Common.{sym, ◌∙◌}
use Rattle.std.proofs.lemmas.Result.{err_from_is_err_and}
use Rattle.dbf_cell.specs.CellLaws.{place-refused, type-refused, mark-refused, place_read}
use Rattle.dbf_cell.proofs.cell_place.Goals as goal

pub returns-in_err-place : goal.returns-in_err-place
returns-in_err-place c =
    let p = err_from_is_err_and c.from_residual.result c.from_residual.ensures.1 in
    rw (p.1, p.2) (sym (place-refused _ _ _ _ _ (sym c.in_err-place.ensures.case)))

pub returns-then-not-reads_type : goal.returns-then-not-reads_type
returns-then-not-reads_type c =
    sym (type-refused _ _ _ _ _ (sym c.in_ok-place.ensures.case) (sym c.reads_type.ensures ∙ c.if-not-reads_type.true))

pub returns-then-not-mark_good : goal.returns-then-not-mark_good
returns-then-not-mark_good c =
    sym
    (mark-refused _ _ _ _ _ (sym c.in_ok-place.ensures.case) (sym c.reads_type.ensures ∙ c.if-not-reads_type.false)
    (sym c.mark_good.ensures ∙ c.if-not-mark_good.true))

pub returns : goal.returns
returns c =
    sym
    (place_read _ _ _ _ _ (sym c.in_ok-place.ensures.case) (sym c.reads_type.ensures ∙ c.if-not-reads_type.false)
    (sym c.mark_good.ensures ∙ c.if-not-mark_good.false))
