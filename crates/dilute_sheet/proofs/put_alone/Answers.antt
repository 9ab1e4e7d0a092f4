-- `put_alone`: the number and the line's end, one behind the other.
use Rattle.std.proofs.Common.{◌∙◌}
use Rattle.dilute_sheet.specs.Sheet.{alone_text}
use Rattle.dilute_sheet.specs.OutputLaws.{wrote_then}
use Rattle.dilute_sheet.proofs.put_alone.Goals as goal

pub returns : goal.returns
unfolding alone_text
returns c = rw (← c.number.ensures) (wrote_then _ _ _ _ _ _ c.put_decimal-end.ensures ∙ c.put.ensures)
