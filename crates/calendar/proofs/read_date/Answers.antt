-- The length and the blanks are the rule's cases, and then the parts decide, one after another.
use Rattle.std.proofs.Common.{◌≡◌, ◌≢◌, ◌≤◌, ℕ, List, length, drop, false, sym, ◌∙◌, eqb, eq-eqb, ne_eqb}
use Rattle.std.proofs.lemmas.Result.{err_from_is_err_and}
use Rattle.octets.specs.Text.{every, blank, unpadded}
use Rattle.octets.specs.TextLaws.{blanks_passed}
use Rattle.calendar.specs.DateLaws.{date-length, date-empty, bad_year, bad_month, bad_day, good_parts}
use Rattle.calendar.proofs.read_date.Goals as goal

-- a text of eight bytes of which not eight are blanks is not blank
not_blank : (text : List ℕ) (k : ℕ) → length text ≡ 8 → k ≤ length text → drop k text ≡ unpadded text → k ≢ 8 → every (eqb blank) text ≡ false
not_blank text k eight within passed other = blanks_passed text k within passed ∙ ne_eqb _ _ (λ e. other (e ∙ eight))

pub returns-then-text-ne8 : goal.returns-then-text-ne8
returns-then-text-ne8 c = sym (date-length _ c.if-text-ne8.true)

pub returns-then-padding-eq8 : goal.returns-then-padding-eq8
returns-then-padding-eq8 c =
    let eight = c.if-text-ne8.false in
    sym (date-empty _ eight (blanks_passed _ _ c.padding.ensures.0 c.padding.ensures.1 ∙ eq-eqb _ _ (c.if-padding-eq8.true ∙ sym eight)))

pub returns-in_err-year : goal.returns-in_err-year
returns-in_err-year c =
    let eight = c.if-text-ne8.false in
    let shown = not_blank _ _ eight c.padding.ensures.0 c.padding.ensures.1 c.if-padding-eq8.false in
    let p = err_from_is_err_and c.from_residual.result c.from_residual.ensures.1 in
    rw (p.1, p.2) (bad_year _ eight shown _ c.in_err-year.ensures.said)

pub returns-in_err-month : goal.returns-in_err-month
returns-in_err-month c =
    let eight = c.if-text-ne8.false in
    let shown = not_blank _ _ eight c.padding.ensures.0 c.padding.ensures.1 c.if-padding-eq8.false in
    let p = err_from_is_err_and c.from_residual-in_err-month.result c.from_residual-in_err-month.ensures.1 in
    rw (p.1, p.2) (bad_month _ eight shown _ c.in_ok-year.ensures.said _ c.in_err-month.ensures.said)

pub returns-in_err-day : goal.returns-in_err-day
returns-in_err-day c =
    let eight = c.if-text-ne8.false in
    let shown = not_blank _ _ eight c.padding.ensures.0 c.padding.ensures.1 c.if-padding-eq8.false in
    let p = err_from_is_err_and c.from_residual-in_err-day.result c.from_residual-in_err-day.ensures.1 in
    rw (p.1, p.2) (bad_day _ eight shown _ c.in_ok-year.ensures.said _ c.in_ok-month.ensures.said _ c.in_err-day.ensures.said)

pub returns : goal.returns
returns c =
    let eight = c.if-text-ne8.false in
    let shown = not_blank _ _ eight c.padding.ensures.0 c.padding.ensures.1 c.if-padding-eq8.false in
    c.date_of_numbers.ensures ∙ good_parts _ eight shown _ c.in_ok-year.ensures.said _ c.in_ok-month.ensures.said _ c.in_ok-day.ensures.said
