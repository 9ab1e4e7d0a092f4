-- No more pages are needed than one for each level and one for a new root, and these a good header's supply has.
use Rattle.std.proofs.Common.{arith, ◌+◌, ◌≤◌}
use Rattle.idx_page.specs.Header.{max_levels}
use Rattle.idx_page.specs.HeaderLaws.{good-header}
use Rattle.idx_supply.specs.SupplyLaws.{header_lasts}
use Rattle.idx_path.specs.RoomLaws.{root-once, room-told}
use Rattle.idx_path.proofs.no_room.Goals as goal

pub supply_of-supply-requires : goal.supply_of-supply-requires
supply_of-supply-requires c = (good-header _ c.requires.0).long

pub supply_after-after-requires : goal.supply_after-after-requires
supply_after-after-requires c =
    let needed : c.args.path.run + c.root_split-more.result ≤ max_levels + 1 =
    omega (arith, c.requires.1, root-once c.args.path, c.root_split-more.ensures) in
    let lasts = header_lasts _ (good-header _ c.requires.0) in
    rw c.supply_of-supply.ensures (omega (arith, needed, lasts))

pub returns : goal.returns
returns c = room-told c.args.index.now c.args.path c.root_split-more.ensures c.supply_of-supply.ensures c.supply_after-after.ensures
