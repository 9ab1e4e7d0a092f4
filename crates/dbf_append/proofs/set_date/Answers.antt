-- The answer about the table, and then the date.
use Rattle.std.proofs.Common.{sym, arith, length-set}
use Rattle.std.proofs.lemmas.Result.{err_from_is_err_and}
use Rattle.dbf_table.specs.DateLaws.{storable}
use Rattle.dbf_append.specs.CheckLaws.{held-header, date-refused, date_3, date_set}
use Rattle.dbf_append.proofs.set_date.Goals as goal

pub returns-in_err-check_held : goal.returns-in_err-check_held
returns-in_err-check_held c =
    let p = err_from_is_err_and c.from_residual.result c.from_residual.ensures.1 in
    rw (p.1, p.2) (date-refused _ _ _ _ _ _ (sym c.in_err-check_held.ensures))

pub returns-then-not-storable_date : goal.returns-then-not-storable_date
returns-then-not-storable_date c = date_3 _ _ _ _ _ _ (sym c.in_ok-check_held.ensures) (sym c.if-not-storable_date.ensures)

pub overflow_sub-buffer : goal.overflow_sub-buffer
overflow_sub-buffer c = omega (arith, (storable _ _ _ (sym c.if-not-storable_date.ensures)).year_from)

pub overflow_cast-buffer : goal.overflow_cast-buffer
overflow_cast-buffer c = omega (arith, (storable _ _ _ (sym c.if-not-storable_date.ensures)).year_to)

pub bounds-buffer-1 : goal.bounds-buffer-1
bounds-buffer-1 c = omega (arith, held-header _ _ _ (sym c.in_ok-check_held.ensures))

pub overflow_cast-buffer-2 : goal.overflow_cast-buffer-2
overflow_cast-buffer-2 c = omega (arith, (storable _ _ _ (sym c.if-not-storable_date.ensures)).month_to)

pub bounds-buffer : goal.bounds-buffer
bounds-buffer c = simp length-set (omega (arith, held-header _ _ _ (sym c.in_ok-check_held.ensures)))

pub overflow_cast-buffer-3 : goal.overflow_cast-buffer-3
overflow_cast-buffer-3 c = omega (arith, (storable _ _ _ (sym c.if-not-storable_date.ensures)).day_to)

pub bounds-buffer-2 : goal.bounds-buffer-2
bounds-buffer-2 c = simp length-set (omega (arith, held-header _ _ _ (sym c.in_ok-check_held.ensures)))

pub returns : goal.returns
returns c = date_set _ _ _ _ _ _ (sym c.in_ok-check_held.ensures) (sym c.if-not-storable_date.ensures)
