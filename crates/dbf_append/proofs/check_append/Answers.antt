-- The table's own refusal, or the record's.
use Rattle.std.proofs.Common.{◌∙◌, sym, length-take-le}
use Rattle.std.proofs.lemmas.Result.{err_from_is_err_and}
use Rattle.dbf_append.specs.Append.{append_refusal, record_refusal}
use Rattle.dbf_append.specs.CheckLaws.{held-good, held_then, held-refused}
use Rattle.dbf_append.proofs.check_append.Goals as goal

pub returns-in_err-shape : goal.returns-in_err-shape
unfolding append_refusal
returns-in_err-shape c =
    let p = err_from_is_err_and c.from_residual.result c.from_residual.ensures.1 in
    rw (p.1, p.2) (sym (held-refused _ _ _ _ (sym c.in_err-shape.ensures)).0)

pub slice_bounds-check_record-end : goal.slice_bounds-check_record-end
slice_bounds-check_record-end c = sym (length-take-le _ _ (held-good _ _ _ (sym c.in_ok-shape.ensures)).0)

pub check_record-requires : goal.check_record-requires
check_record-requires c = (held-good _ _ _ (sym c.in_ok-shape.ensures)).1

pub returns : goal.returns
unfolding append_refusal record_refusal
returns c = c.check_record.ensures ∙ sym (held_then _ _ _ _ (sym c.in_ok-shape.ensures))
