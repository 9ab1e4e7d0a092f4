-- A table's refusal, the test of the number, or the entry of a field of a good table.
use Rattle.std.proofs.Common.{Ok, arith, ap, sym, ◌∙◌}
use Rattle.std.proofs.lemmas.Result.{err_from_is_err_and}
use Rattle.dbf_field.specs.FieldLaws.{field_good, field_unchecked, field_12, field_given, entry-inside}
use Rattle.dbf_field.proofs.field_entry.Goals as goal

pub returns-in_err-shape : goal.returns-in_err-shape
returns-in_err-shape c =
    let said = c.in_err-shape.ensures in
    let p = err_from_is_err_and c.from_residual.result c.from_residual.ensures.1 in
    rw (p.1, p.2) (sym (field_unchecked _ _ _ (sym said)))

pub returns-else-number_good : goal.returns-else-number_good
returns-else-number_good c = sym (field_12 _ _ _ (sym c.in_ok-shape.ensures) (sym c.if-number_good.ensures))

pub overflow_sub-field : goal.overflow_sub-field
overflow_sub-field c =
    let given = field_given _ _ _ (sym c.in_ok-shape.ensures) (sym c.if-number_good.ensures) in
    (field_good _ _ given.0).from

pub entry_at-requires : goal.entry_at-requires
entry_at-requires c =
    let given = field_given _ _ _ (sym c.in_ok-shape.ensures) (sym c.if-number_good.ensures) in
    let good = field_good _ _ given.0 in
    entry-inside _ _ good.table (omega (arith, good.from, good.to))

pub returns-then-number_good : goal.returns-then-number_good
returns-then-number_good c =
    let given = field_given _ _ _ (sym c.in_ok-shape.ensures) (sym c.if-number_good.ensures) in
    ap Ok c.entry_at.ensures ∙ sym given.1
