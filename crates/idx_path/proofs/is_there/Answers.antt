-- A good header holds a root and a key length that is good.
use Rattle.std.proofs.Common.{arith, ◌∙◌}
use Rattle.idx_page.specs.HeaderLaws.{good-header}
use Rattle.idx_path.specs.PresenceLaws.{there-told}
use Rattle.idx_path.proofs.is_there.Goals as goal

pub root-requires : goal.root-requires
root-requires c = (good-header _ c.requires.0).long

pub there_from-requires : goal.there_from-requires
there_from-requires c = let h = good-header _ c.requires.0 in omega (arith, c.requires.1)

pub returns : goal.returns
returns c = c.there_from.ensures ∙ there-told c.args.index.now c.args.key.now c.args.number.0 c.requires.1 c.root.ensures
