-- Laws: the checks of a table's form are its checks but the last. Assumes nothing.
use Rattle.std.specs.Prelude.{ℕ, ◌≤◌, ◌<◌, ◌≡◌, true, List, [], ◌∷◌, ◌++◌, length, eqb, leb, Err, Ok}
use Rattle.std.proofs.Math.Path.{refl, sym, ap}
use Rattle.std.proofs.Common.{◌∙◌, arith, lit<}
use borrow.Author.Tests.{eqb-true, eqb-false, le-leb, lt-leb, ne_eqb}
use Rattle.basis.specs.Tests.{either}
use Rattle.basis.specs.Lists.{All}
use Rattle.refusal.specs.CheckLaws.{first-none, first-after, first-before, first_below}
use Rattle.refusal.specs.Checks.{first_refusal}
use Rattle.dbf_table.specs.Table.{min_table, length_good, table_checks, table_refusal}
use Rattle.dbf_table.specs.TableLaws.{size-long, table-numbered}
use Rattle.dbf_append.specs.Extent.{form_checks, form_refusal, own_end, extent_refusal, extent_rule}

module _ (b : List ℕ) where
  -- the length's check comes last
  form_then_length : table_checks b ≡ form_checks b ++ ((length_good b, 10) ∷ [])
  unfolding form_checks table_checks
  form_then_length = refl

  pub form-numbered : All (λ check. 0 < check.1) (form_checks b)
  unfolding form_checks table_checks
  form-numbered = (lit< tt, (lit< tt, (lit< tt, (lit< tt, (lit< tt, (lit< tt, (lit< tt, (lit< tt, (lit< tt, tt)))))))))

  form-below : form_refusal b < 10
  unfolding form_refusal form_checks table_checks
  form-below = first_below 10 (form_checks b) (lit< tt) (lit< tt, (lit< tt, (lit< tt, (lit< tt, (lit< tt, (lit< tt, (lit< tt, (lit< tt, (lit< tt, tt)))))))))

  -- a table's refusal is its form's, or that of its length
  form-first : (form_refusal b ≡ 0 → ⊥) → table_refusal b ≡ form_refusal b
  unfolding table_refusal form_refusal
  form-first some = ap first_refusal form_then_length ∙ first-before (form_checks b) ((length_good b, 10) ∷ []) some

  pub form-passed : form_refusal b ≡ 0 → table_refusal b ≡ first_refusal ((length_good b, 10) ∷ [])
  unfolding table_refusal form_refusal
  form-passed none = ap first_refusal form_then_length ∙ first-after (form_checks b) ((length_good b, 10) ∷ []) form-numbered none

  -- so no refusal, and 10, leave none of the form; any other is the form's
  pub form-good : table_refusal b ≡ 0 → form_refusal b ≡ 0
  form-good e =
      either (eqb (form_refusal b) 0)
      (λ none. eqb-true (form_refusal b) 0 none)
      (λ some. sym (form-first (eqb-false (form_refusal b) 0 some)) ∙ e)

  pub form_10 : table_refusal b ≡ 10 → form_refusal b ≡ 0
  form_10 e =
      either (eqb (form_refusal b) 0)
      (λ none. eqb-true (form_refusal b) 0 none)
      (λ some. absurd (omega (arith, form-below, e, form-first (eqb-false (form_refusal b) 0 some))))

  pub form-other : (table_refusal b ≡ 0 → ⊥) → (table_refusal b ≡ 10 → ⊥) → form_refusal b ≡ table_refusal b
  unfolding first_refusal
  form-other some other =
      either (eqb (form_refusal b) 0)
      (λ none.
      let said = form-passed (eqb-true (form_refusal b) 0 none) in
      either (length_good b)
      (λ good. absurd (some (said ∙ rw good)))
      (λ bad. absurd (other (said ∙ rw bad))))
      (λ some. sym (form-first (eqb-false (form_refusal b) 0 some)))

  -- the length of a good table fits a form
  pub length-good : table_refusal b ≡ 0 → length_good b ≡ true
  unfolding table_refusal table_checks
  length-good e = (first-none (table_checks b) (table-numbered b) e).1.1.1.1.1.1.1.1.1.0

  -- a good form has a header
  pub form-long : form_refusal b ≡ 0 → min_table ≤ length b
  unfolding form_refusal form_checks table_checks
  form-long e = size-long b (first-none (form_checks b) form-numbered e).0

  -- ---- the answer

  pub extent-refused : (k : ℕ) → k ≡ form_refusal b → (k ≡ 0 → ⊥) → extent_rule b ≡ Err k
  unfolding extent_rule extent_refusal form_refusal
  extent-refused k e some =
      rw (first-before (form_checks b) ((leb (own_end b) (length b), 10) ∷ []) (λ z. some (e ∙ z)), ← e, ne_eqb k 0 some)

  module _ (none : form_refusal b ≡ 0) where
    after-form : extent_refusal b ≡ first_refusal ((leb (own_end b) (length b), 10) ∷ [])
    unfolding extent_refusal form_refusal
    after-form = first-after (form_checks b) ((leb (own_end b) (length b), 10) ∷ []) form-numbered none

    pub extent-short : length b < own_end b → extent_rule b ≡ Err 10
    unfolding extent_rule first_refusal
    extent-short h = rw (after-form, lt-leb (own_end b) (length b) h)

    pub extent-told : own_end b ≤ length b → extent_rule b ≡ Ok (own_end b)
    unfolding extent_rule first_refusal
    extent-told h = rw (after-form, le-leb (own_end b) (length b) h)
