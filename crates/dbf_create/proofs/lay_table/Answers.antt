-- The answer about the table, and then the room.
use Rattle.std.proofs.Common.{◌∙◌, ℕ, List, sym, ap, arith}
use Rattle.std.proofs.lemmas.Result.{err_from_is_err_and}
use Rattle.refusal.specs.After.{left}
use Rattle.dbf_table.specs.TableLaws.{good_shape}
use Rattle.dbf_create.specs.LayingLaws.{table-refused, table_30, table_laid}
use Rattle.dbf_create.proofs.lay_table.Goals as goal

pub returns-in_err-shape : goal.returns-in_err-shape
returns-in_err-shape c =
    let p = err_from_is_err_and c.from_residual.result c.from_residual.ensures.1 in
    rw (p.1, p.2) (table-refused _ _ _ (sym c.in_err-shape.ensures))

pub overflow_add-shape : goal.overflow_add-shape
overflow_add-shape c = omega (arith, (good_shape _ _ (sym c.in_ok-shape.ensures)).header, c.requires)

pub returns-then-buffer-shape : goal.returns-then-buffer-shape
returns-then-buffer-shape c = table_30 _ _ _ (sym c.in_ok-shape.ensures) (omega arith)

pub copy_in-requires : goal.copy_in-requires
copy_in-requires c = omega (arith, (good_shape _ _ (sym c.in_ok-shape.ensures)).header, c.requires)

pub returns : goal.returns
returns c = table_laid _ _ _ (sym c.in_ok-shape.ensures) (omega arith) ∙ ap (λ (b : List ℕ). left b 0) (sym c.copy_in.ensures)
