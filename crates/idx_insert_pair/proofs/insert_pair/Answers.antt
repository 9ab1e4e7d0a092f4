-- The recursion from the root, and what is left to do at the root.
use Rattle.std.proofs.Common.{refl, arith}
use Rattle.idx_page.specs.HeaderLaws.{good-header}
use Rattle.idx_supply.specs.SupplyLaws.{header_lasts}
use Rattle.idx_insert_page.specs.StepLaws.{next_fits, pair_inserted}
use Rattle.idx_insert_pair.proofs.insert_pair.Goals as goal

pub root-root-requires : goal.root-root-requires
root-root-requires c = (good-header _ c.requires.0).long

pub supply_of-supply-requires : goal.supply_of-supply-requires
supply_of-supply-requires c = (good-header _ c.requires.0).long

pub insert_under-left-requires : goal.insert_under-left-requires
insert_under-left-requires c =
    let h = good-header _ c.requires.0 in
    (omega (arith, c.requires.1), rw c.supply_of-supply.ensures (omega (arith, header_lasts _ h)))

pub at_root-requires : goal.at_root-requires
at_root-requires c =
    let h = good-header _ c.requires.0 in (
      omega (arith, c.requires.1),
      omega (arith, h.long),
      next_fits _ _ _ _ _ _ c.in-Some.below c.in-Some.ensures (rw c.supply_of-supply.ensures (omega (arith, header_lasts _ h))),
    )

pub returns-in-Some : goal.returns-in-Some
returns-in-Some c =
    pair_inserted _ c.args.key.now _ c.requires.1 c.root-root.ensures c.supply_of-supply.ensures c.in-Some.ensures c.at_root.ensures

pub returns-in_default : goal.returns-in_default
returns-in_default c =
    pair_inserted _ c.args.key.now _ c.requires.1 c.root-root.ensures c.supply_of-supply.ensures c.in_default.ensures refl
