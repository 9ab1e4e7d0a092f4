-- The four bytes are stored behind those in the room.
use Rattle.std.proofs.Common.{◌∙◌, ap, length, length-append}
use Rattle.octets.specs.NumberLaws.{length-to_be32}
use Rattle.idx_entries.proofs.GatherLaws.{pushed}
use Rattle.idx_entries.proofs.Room.push_record_number.Goals as goal

pub returns-clause-value : goal.returns-clause-value
returns-clause-value c =
    pushed _ _ c.self.inside.bytes c.self.view_is c.self.told c.self.invariant (length-to_be32 c.args.number.0) c.requires c.put_record_number.ensures

pub returns-clause-size : goal.returns-clause-size
returns-clause-size c =
    ap length (pushed _ _ c.self.inside.bytes c.self.view_is c.self.told c.self.invariant
    (length-to_be32 c.args.number.0) c.requires c.put_record_number.ensures)
    ∙ rw (length-append, length-to_be32)
