-- Laws: a table's form is good exactly by byte 0 and the header from byte 8 on: with another size, date, count and length, all of them good, it stays so.
-- Assumes nothing.
use Rattle.std.specs.Prelude.{ℕ, ◌≤◌, ◌≡◌, true, List, length}
use Rattle.std.proofs.Common.{◌∙◌}
use Rattle.basis.specs.Lists.{All}
use Rattle.refusal.specs.CheckLaws.{first-none, first-all}
use Rattle.refusal.specs.Checks.{first_refusal}
use Rattle.dbf_table.specs.Table.{header_length_of, size_good, date_good, length_good, table_checks, table_refusal}
use Rattle.dbf_table.specs.TableLaws.{HeaderFits, header-fits}
use Rattle.dbf_table.specs.SameForm.{SameForm, kind-same, mark-same, descriptors_same, names_same, memo_same, filled-same, form-inside}
use Rattle.dbf_append.specs.Extent.{form_checks, form_refusal}
use Rattle.dbf_append.specs.ExtentLaws.{form-numbered, form-passed}

-- what a good form gives
module _ (b : List ℕ) (good : form_refusal b ≡ 0) where
  held : All (λ check. check.0 ≡ true) (form_checks b)
  unfolding form_refusal
  held = first-none (form_checks b) (form-numbered b) good

  pub form-header : HeaderFits b
  unfolding form_checks table_checks
  form-header = header-fits b held.0 held.1.1.1.0

  pub size-good : size_good b ≡ true
  unfolding form_checks table_checks
  size-good = held.0

  pub date-good : date_good b ≡ true
  unfolding form_checks table_checks
  date-good = held.1.1.0

-- a good form is one also with another size, date, count and length, if these are good
module _ (b c : List ℕ) (good : form_refusal b ≡ 0) where
  module _ (same : SameForm b c) (size : size_good c ≡ true) (date : date_good c ≡ true) (inside : header_length_of b ≤ length c) where
    pub form-kept : form_refusal c ≡ 0
    unfolding form_refusal form_checks table_checks
    form-kept =
        let fits = form-header b good in
        let was = held b good in
        let marks = was.1.1.1.1 in
        first-all (form_checks c) (
          size,
          (
            kind-same b c fits same ∙ was.1.0,
            (
              date,
              (
                form-inside b c fits same inside,
                (
                  mark-same b c fits same ∙ marks.0,
                  (
                    descriptors_same b c fits same ∙ marks.1.0,
                    (
                      names_same b c fits same ∙ marks.1.1.0,
                      (memo_same b c fits same ∙ marks.1.1.1.0, (filled-same b c fits same ∙ marks.1.1.1.1.0, tt)),
                    ),
                  ),
                ),
              ),
            ),
          ),
        )

    pub table_kept : length_good c ≡ true → table_refusal c ≡ 0
    unfolding first_refusal
    table_kept ended = form-passed c form-kept ∙ rw ended
