-- `match_by_name`: the three cases of `NameMatched`. Past the check the table is good, and the shape is its own.
use Rattle.std.proofs.Common.{refl, sym, arith}
use Rattle.std.proofs.lemmas.Result.{err_from_is_err_and}
use Rattle.dbf_table.specs.TableLaws.{good_shape}
use Rattle.inspect_argument.specs.NameLaws.{by_refusal, by_none, by_match}
use Rattle.inspect_argument.proofs.names.match_by_name.Goals as goal

pub returns-in_err-shape : goal.returns-in_err-shape
returns-in_err-shape c =
    let p = err_from_is_err_and c.from_residual.result c.from_residual.ensures.1 in
    rw (p.1, p.2) (by_refusal _ _ _ _ (sym c.in_err-shape.ensures))

pub named_field-requires : goal.named_field-requires
named_field-requires c = let said = good_shape _ _ (sym c.in_ok-shape.ensures) in (said.table, said.fields)

pub returns-in-Some : goal.returns-in-Some
returns-in-Some c =
    let said = good_shape _ _ (sym c.in_ok-shape.ensures) in
    let some = c.in-Some.ensures.some in
    by_match _ _ _ _ said.table (λ none. omega (arith, some.0, some.1, none)) (rw some.1 at c.match_index.ensures)

pub returns-in-None : goal.returns-in-None
returns-in-None c =
    let said = good_shape _ _ (sym c.in_ok-shape.ensures) in
    by_none _ _ _ said.table (c.in-None.ensures.none refl)
