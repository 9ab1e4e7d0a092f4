-- `put`: nothing past the end, the whole text, or as much of it as there is room for.
use Rattle.std.proofs.Common.{arith}
use Rattle.dilute_sheet.specs.OutputLaws.{wrote_past, wrote-whole, wrote-cut}
use Rattle.dilute_sheet.proofs.put.Goals as goal

pub returns-then-room-at : goal.returns-then-room-at
returns-then-room-at c = wrote_past _ _ _ c.if-room-at.true

pub returns-then-text-room : goal.returns-then-text-room
returns-then-text-room c = rw c.copy_in.ensures (wrote-whole _ _ _ (omega (arith, c.if-text-room.true)))

pub returns : goal.returns
returns c = rw c.copy_in-2.ensures (wrote-cut _ _ _ (omega (arith, c.if-text-room.false)))
