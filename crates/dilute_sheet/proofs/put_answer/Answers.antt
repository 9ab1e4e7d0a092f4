-- `put_answer`: the parts of an answer are written one behind the other.
use Rattle.std.proofs.Common.{◌∙◌}
use Rattle.dilute_sheet.specs.Sheet.{answer_text}
use Rattle.dilute_sheet.specs.OutputLaws.{wrote_then}
use Rattle.dilute_sheet.proofs.put_answer.Goals as goal

pub returns-in-Ok : goal.returns-in-Ok
unfolding answer_text
returns-in-Ok c =
    rw c.in-Ok.is
    (wrote_then _ _ _ _ _ _ c.put_number-first.ensures ∙ wrote_then _ _ _ _ _ _ c.put_number-second.ensures ∙ c.put.ensures)

pub returns-in-Err : goal.returns-in-Err
unfolding answer_text
returns-in-Err c = rw (c.in-Err.is, ← c.number.ensures) (wrote_then _ _ _ _ _ _ c.put_number-end.ensures ∙ c.put-in-Err.ensures)
