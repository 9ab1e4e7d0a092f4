-- A table's refusal, the tests of the numbers in their order, or the place.
use Rattle.std.proofs.Common.{Ok, ap, sym, ◌∙◌}
use Rattle.std.proofs.lemmas.Result.{err_from_is_err_and}
use Rattle.dbf_field.specs.FieldLaws.{place-unchecked, place_11, place_12, place_given, place-good, place-answer}
use Rattle.dbf_field.proofs.field_place.Goals as goal

pub returns-in_err-shape : goal.returns-in_err-shape
returns-in_err-shape c =
    let said = c.in_err-shape.ensures in
    let p = err_from_is_err_and c.from_residual.result c.from_residual.ensures.1 in
    rw (p.1, p.2) (place-answer _ _ _ _ (sym (place-unchecked _ _ _ _ (sym said))))

pub returns-then-not-number_good : goal.returns-then-not-number_good
returns-then-not-number_good c = place-answer _ _ _ _ (sym (place_11 _ _ _ c.args.field (sym c.in_ok-shape.ensures) (sym c.if-not-number_good.ensures)))

pub returns-then-not-number_good-2 : goal.returns-then-not-number_good-2
returns-then-not-number_good-2 c = place-answer _ _ _ _ (sym (place_12 _ _ _ _ (sym c.in_ok-shape.ensures) (sym c.if-not-number_good.ensures) (sym c.if-not-number_good-2.ensures)))

pub place_at-requires : goal.place_at-requires
place_at-requires c = place-good _ _ _ (place_given _ _ _ _ (sym c.in_ok-shape.ensures) (sym c.if-not-number_good.ensures) (sym c.if-not-number_good-2.ensures)).0

pub returns : goal.returns
returns c = place-answer _ _ _ _ (ap Ok c.place_at.ensures.0 ∙ sym (place_given _ _ _ _ (sym c.in_ok-shape.ensures) (sym c.if-not-number_good.ensures) (sym c.if-not-number_good-2.ensures)).1)
