-- By the case of the table's check, and of the test of the room.
use Rattle.std.proofs.Common.{sym}
use Rattle.dbf_calls.specs.LentLaws.{plan_refused, plan_short, plan_good}
use Rattle.dbf_calls.proofs.listing_plan.Goals as goal

pub returns-in-Err : goal.returns-in-Err
returns-in-Err c = rw c.number.ensures (plan_refused _ _ _ (sym c.in-Err.ensures))

pub returns-then-room-shape : goal.returns-then-room-shape
returns-then-room-shape c = rw c.number-then-room-shape.ensures (plan_short _ _ _ (sym c.in-Ok.ensures) c.if-room-shape.true)

pub returns-else-room-shape : goal.returns-else-room-shape
returns-else-room-shape c = plan_good _ _ _ (sym c.in-Ok.ensures) c.if-room-shape.false
