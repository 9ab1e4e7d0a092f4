-- `put_number`: a blank and the digits, one behind the other.
use Rattle.std.proofs.Common.{[], ◌∷◌, ◌∙◌}
use Rattle.octets.specs.Text.{blank}
use Rattle.dilute_sheet.specs.Sheet.{number_text}
use Rattle.dilute_sheet.specs.OutputLaws.{wrote_then}
use Rattle.dilute_sheet.proofs.put_number.Goals as goal

pub returns : goal.returns
unfolding number_text
returns c = wrote_then _ _ (blank ∷ []) _ _ _ c.put-end.ensures ∙ c.put_decimal.ensures
