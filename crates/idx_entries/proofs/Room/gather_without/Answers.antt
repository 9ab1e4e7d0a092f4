-- The parts, one behind the other, are the bytes of the rule's entries.
use Rattle.std.proofs.Common.{◌+◌, arith}
use Rattle.idx_leaf.specs.EntryLaws.{listed-within}
use Rattle.idx_entries.proofs.GatherLaws.{spread, without_bytes}
use Rattle.idx_entries.proofs.Room.gather_without.Goals as goal

pub entries_between-requires : goal.entries_between-requires
entries_between-requires c =
    let w = listed-within c.requires.0 in (record { key = w.key; count = omega (arith, w.count, c.requires.1); page = w.page }, omega arith)

pub push-requires : goal.push-requires
push-requires c = let s = spread c.args.i c.requires.0 (omega (arith, c.requires.1)) in omega arith

pub entries_between-requires-2 : goal.entries_between-requires-2
entries_between-requires-2 c = (listed-within c.requires.0, omega (arith, c.requires.1))

pub push-requires-2 : goal.push-requires-2
push-requires-2 c =
    let s = spread c.args.i c.requires.0 (omega (arith, c.requires.1)) in
    let t = spread (c.args.i + 1) c.requires.0 (omega (arith, c.requires.1)) in
    omega arith

pub returns : goal.returns
returns c = cc (without_bytes c.requires.0 c.requires.1)
