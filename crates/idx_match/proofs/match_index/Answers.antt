-- `match_index`: the table's own refusal, or the match of a table that was checked.
use Rattle.std.proofs.Common.{sym}
use Rattle.std.proofs.lemmas.Result.{err_from_is_err_and}
use Rattle.dbf_table.specs.TableLaws.{good_shape}
use Rattle.idx_match.proofs.CallLaws.{answer-table}
use Rattle.idx_match.proofs.match_index.Goals as goal

pub returns-in_err-shape : goal.returns-in_err-shape
returns-in_err-shape c =
    let p = err_from_is_err_and c.from_residual.result c.from_residual.ensures.1 in
    rw (p.1, p.2) (answer-table _ _ _ _ (sym c.in_err-shape.ensures))

pub match_checked-requires : goal.match_checked-requires
match_checked-requires c = good_shape _ _ (sym c.in_ok-shape.ensures)
