-- The parts, one behind the other, are the bytes of the rule's entries.
use Rattle.idx_entries.proofs.FitLaws.{root_bytes}
use Rattle.idx_entries.proofs.Room.gather_root.Goals as goal

pub returns : goal.returns
returns c = cc (root_bytes c.args.index.now c.args.key.now c.args.old.0 c.args.new.0)
