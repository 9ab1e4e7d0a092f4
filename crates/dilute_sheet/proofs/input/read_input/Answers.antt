-- `read_input`: what four lines ask for, or 40.
use Rattle.std.proofs.Common.{◌≡◌, refl, ap, ◌∙◌}
use Rattle.std.specs.Prelude.{Option, None, Some, ok_or}
use Rattle.refusal.specs.Refusals.{numbered}
use Rattle.refusal.specs.declared.Refusal.TheVariants as refusal
use Rattle.dilute_sheet.specs.declared.input.Request.{Request}
use Rattle.dilute_sheet.specs.InputLaws.{input_answer}
use Rattle.dilute_sheet.proofs.input.read_input.Goals as goal

by-number : (o : Option Request) → numbered (ok_or o refusal.ArgumentsOrFiles) ≡ ok_or o 40
by-number None = refl
by-number (Some request) = refl

pub returns : goal.returns
returns c = input_answer _ _ (ap numbered c.ok_or.ensures.value ∙ by-number _ ∙ c.asked.ensures)
