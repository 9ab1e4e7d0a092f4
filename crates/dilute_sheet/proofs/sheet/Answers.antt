-- `sheet`: by the case of the input.
use Rattle.std.proofs.Common.{sym}
use Rattle.dilute_sheet.specs.Sheet.{input_text, sheet_text}
use Rattle.dilute_sheet.specs.OutputLaws.{wrote-counts}
use Rattle.dilute_sheet.proofs.sheet.Goals as goal

pub returns-in-Ok : goal.returns-in-Ok
unfolding sheet_text input_text
returns-in-Ok c = record {
  input_value = rw (← c.in-Ok.ensures.case) c.put_request.ensures;
  counts = wrote-counts _ _ _ _ _ c.put_request.ensures;
}

pub returns-in-Err : goal.returns-in-Err
unfolding sheet_text input_text
returns-in-Err c = record {
  input_value = rw (← c.in-Err.ensures.case) c.put_alone.ensures;
  counts = wrote-counts _ _ _ _ _ c.put_alone.ensures;
}
