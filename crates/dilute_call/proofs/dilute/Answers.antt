-- By the case of the library's answer.
use Rattle.std.proofs.Common.{sym}
use Rattle.dilution.specs.Dilution.{dilution_code}
use Rattle.dilute_call.specs.Volumes.{volumes_out}
use Rattle.dilute_call.proofs.dilute.Goals as goal

pub returns-in-Ok : goal.returns-in-Ok
unfolding volumes_out dilution_code
returns-in-Ok c = rw (sym c.in-Ok.ensures)

pub returns-in-Err : goal.returns-in-Err
unfolding volumes_out dilution_code
returns-in-Err c = rw (sym c.in-Err.ensures, c.number.ensures)
