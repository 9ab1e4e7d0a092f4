-- `put_request`: the refusal alone, or the lines of all records.
use Rattle.std.proofs.Common.{sym, ◌∙◌}
use Rattle.refusal.specs.RefusalLaws.{refusal-some}
use Rattle.dilute_sheet.specs.SheetLaws.{request_refused, request_lines}
use Rattle.dilute_sheet.proofs.put_request.Goals as goal

pub put_records-requires : goal.put_records-requires
put_records-requires c = sym c.in-Ok.ensures

pub returns-in-Ok : goal.returns-in-Ok
returns-in-Ok c = rw (request_lines c.args.table.now c.args.index.now c.args.request (sym c.in-Ok.ensures)) c.put_records.ensures

pub returns-in-Err : goal.returns-in-Err
returns-in-Err c =
    let said = c.in-Err.ensures in
    rw (request_refused c.args.table.now c.args.index.now c.args.request (λ e. refusal-some _ (said ∙ e))) (rw said at c.put_alone.ensures)
