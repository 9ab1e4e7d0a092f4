-- Laws: what the calls' proofs cite of the answers; an out-parameter keeps what it held if the answer is not 0. Assumes nothing.
use Rattle.std.specs.Prelude.{ℕ, ◌≡◌, refl, ℤ, Err, None, Ok, Some}
use Rattle.calendar.specs.declared.Date.{Date}
use Rattle.calendar.specs.DateText.{DateAnswer}
use Rattle.numeral.specs.Format.{Number}
use Rattle.dbf_cell.specs.Codes.{number_code, date_code, logical_code, text_code}
use Rattle.dbf_cell.specs.Cell.{Logical}
use Rattle.dbf_cell.specs.Cell.{TextAnswer}
use Rattle.dbf_cell.specs.declared.TextPlace.TheVariants as text
use Rattle.dbf_cell_calls.specs.Answers.{Part, number_out, date_out, logical_out, text_out}

pub number-kept : (answer : Number) (old : ℤ) → ((number_out answer old).answer ≡ 0 → ⊥) → (number_out answer old).held ≡ old
unfolding number_out number_code
number-kept (Ok (Some v)) old other = absurd (other refl)
number-kept (Ok None) old other = refl
number-kept (Err n) old other = refl

pub date-kept : (answer : DateAnswer) (old : Date) → ((date_out answer old).answer ≡ 0 → ⊥) → (date_out answer old).held ≡ old
unfolding date_out date_code
date-kept (Ok (Some d)) old other = absurd (other refl)
date-kept (Ok None) old other = refl
date-kept (Err n) old other = refl

pub logical_kept : (answer : Logical) (old : ℕ) → ((logical_out answer old).answer ≡ 0 → ⊥) → (logical_out answer old).held ≡ old
unfolding logical_out logical_code
logical_kept (Ok (Some v)) old other = absurd (other refl)
logical_kept (Ok None) old other = refl
logical_kept (Err n) old other = refl

pub text_kept : (answer : TextAnswer) (old : Part) → ((text_out answer old).answer ≡ 0 → ⊥) → (text_out answer old).held ≡ old
unfolding text_out text_code
text_kept (Ok (Some (text.Table place))) old other = absurd (other refl)
text_kept (Ok (Some (text.Memo place))) old other = absurd (other refl)
text_kept (Ok None) old other = refl
text_kept (Err n) old other = refl
