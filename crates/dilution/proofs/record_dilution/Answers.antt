-- The deletion byte, the text, and then by the concentration.
use Rattle.std.proofs.Common.{◌≡◌, sym, ap, ◌∙◌, refl, Err}
use Rattle.std.specs.Prelude.{ℤ, Option, Some, None, Ok}
use Rattle.std.proofs.lemmas.Result.{err_from_is_err_and}
use Rattle.refusal.specs.RefusalLaws.{refusal-some}
use Rattle.dbf_cell.specs.Cell.{mark_good}
use Rattle.dbf_cell.specs.Codes.{number_refusal}
use Rattle.dilution.specs.Dilution.{concentration_of, dilution_of}
use Rattle.dilution.specs.StepLaws.{refused_15, refused_deleted, refused_text, text_read, placed-mark, placed_text}
use Rattle.dilution.proofs.record_dilution.Goals as goal

pub returns-then-not-mark_good : goal.returns-then-not-mark_good
returns-then-not-mark_good c =
    let byte = placed-mark _ c.args.number c.args.field _ c.place_at-place.ensures.0 in
    sym (refused_15 _ _ _ _ _ (ap mark_good (sym byte) ∙ sym c.if-not-mark_good.ensures))

pub returns-then-place-eq-DELETED : goal.returns-then-place-eq-DELETED
returns-then-place-eq-DELETED c =
    let byte = placed-mark _ c.args.number c.args.field _ c.place_at-place.ensures.0 in
    sym (refused_deleted _ _ _ _ _ (ap mark_good (sym byte) ∙ sym c.if-not-mark_good.ensures) (sym byte ∙ c.if-place-eq-DELETED.true))

-- a text that is read is not refused
taken : (text : Option ℤ) → number_refusal (Ok text) ≡ 0
unfolding number_refusal
taken (Some v) = refl
taken None = refl

pub returns-in_err-text : goal.returns-in_err-text
unfolding number_refusal
returns-in_err-text c =
    let byte = placed-mark _ c.args.number c.args.field _ c.place_at-place.ensures.0 in
    let read = placed_text _ c.args.number c.args.field _ c.place_at-place.ensures.0 c.requires.concentration in
    let text = sym read ∙ sym c.in_err-text.ensures in
    let said = ap number_refusal text in
    let p = err_from_is_err_and c.from_residual.result c.from_residual.ensures.1 in
    rw (p.1, p.2)
    (ap Err (sym said)
    ∙ sym (refused_text _ _ _ _ _ (ap mark_good (sym byte) ∙ sym c.if-not-mark_good.ensures) (λ e. c.if-place-eq-DELETED.false (byte ∙ e))
    (λ z. refusal-some _ (sym said ∙ z))))

pub returns : goal.returns
returns c =
    let byte = placed-mark _ c.args.number c.args.field _ c.place_at-place.ensures.0 in
    let read = placed_text _ c.args.number c.args.field _ c.place_at-place.ensures.0 c.requires.concentration in
    let text = sym read ∙ sym c.in_ok-text.ensures in
    c.dilution_of.ensures
    ∙ ap (λ x. dilution_of x c.args.target c.args.final_volume) (c.concentration_of.ensures ∙ ap concentration_of (sym text))
    ∙ sym (text_read _ _ _ _ _ (ap mark_good (sym byte) ∙ sym c.if-not-mark_good.ensures) (λ e. c.if-place-eq-DELETED.false (byte ∙ e))
    (ap number_refusal text ∙ taken c.in_ok-text.text))
