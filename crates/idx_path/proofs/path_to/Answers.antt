-- A good header holds a root and a key length that is good.
use Rattle.std.proofs.Common.{arith}
use Rattle.idx_page.specs.HeaderLaws.{good-header}
use Rattle.idx_path.specs.RoomLaws.{path-told}
use Rattle.idx_path.proofs.path_to.Goals as goal

pub root-requires : goal.root-requires
root-requires c = (good-header _ c.requires.0).long

pub path_from-requires : goal.path_from-requires
path_from-requires c = let h = good-header _ c.requires.0 in (omega (arith, c.requires.1), omega arith)

pub returns : goal.returns
returns c = path-told c.args.index.now c.args.key.now c.args.number.0 c.requires.1 c.root.ensures c.path_from.ensures
