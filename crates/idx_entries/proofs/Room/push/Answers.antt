-- The bytes are stored behind those in the room.
use Rattle.std.proofs.Common.{◌∙◌, ap, refl, length, length-append}
use Rattle.idx_entries.proofs.GatherLaws.{pushed}
use Rattle.idx_entries.proofs.Room.push.Goals as goal

pub returns-clause-value : goal.returns-clause-value
returns-clause-value c = pushed _ _ c.self.inside.bytes c.self.view_is c.self.told c.self.invariant refl c.requires c.copy_in.ensures

pub returns-clause-size : goal.returns-clause-size
returns-clause-size c =
    ap length (pushed _ _ c.self.inside.bytes c.self.view_is c.self.told c.self.invariant refl c.requires c.copy_in.ensures) ∙ length-append c.args.self.now c.args.part.now
