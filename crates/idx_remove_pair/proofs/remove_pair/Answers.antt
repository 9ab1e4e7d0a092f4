-- The recursion from the root, and what is left to do at the root.
use Rattle.std.proofs.Common.{refl, arith}
use Rattle.idx_page.specs.HeaderLaws.{good-header}
use Rattle.idx_remove_page.specs.StepLaws.{emptied-fits, pair_removed}
use Rattle.idx_remove_pair.proofs.remove_pair.Goals as goal

pub root-root-requires : goal.root-root-requires
root-root-requires c = (good-header _ c.requires.0).long

pub remove_under-left-requires : goal.remove_under-left-requires
remove_under-left-requires c = let h = good-header _ c.requires.0 in omega (arith, c.requires.1)

pub at_root-requires : goal.at_root-requires
at_root-requires c = rw c.remove_under-left.auto.index (emptied-fits _ _ _ _ _ c.in-Some.below c.in-Some.ensures)

pub returns-in-Some : goal.returns-in-Some
returns-in-Some c = pair_removed _ c.args.key.now c.args.number.0 c.requires.1 c.root-root.ensures c.in-Some.ensures c.at_root.ensures

pub returns-in_default : goal.returns-in_default
returns-in_default c = pair_removed _ c.args.key.now c.args.number.0 c.requires.1 c.root-root.ensures c.in_default.ensures refl
