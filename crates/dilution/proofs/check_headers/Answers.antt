-- The table's refusal, or by the index's header.
use Rattle.std.proofs.Common.{sym}
use Rattle.std.proofs.lemmas.Result.{err_from_is_err_and}
use Rattle.dilution.specs.StepLaws.{header-table, header-one, header_24}
use Rattle.dilution.proofs.check_headers.Goals as goal

pub returns-in_err-check_table : goal.returns-in_err-check_table
returns-in_err-check_table c =
    let p = err_from_is_err_and c.from_residual.result c.from_residual.ensures.1 in
    rw (p.1, p.2) (header-table _ _ _ (sym c.in_err-check_table.ensures))

pub returns-then-is_distinct : goal.returns-then-is_distinct
returns-then-is_distinct c = header-one _ _ _ (sym c.in_ok-check_table.ensures) (sym c.if-is_distinct.ensures)

pub returns-else-is_distinct : goal.returns-else-is_distinct
returns-else-is_distinct c = header_24 _ _ _ (sym c.in_ok-check_table.ensures) (sym c.if-is_distinct.ensures)
