-- The parts, one behind the other, are the bytes of the rule's entries.
use Rattle.std.proofs.Common.{◌+◌, arith}
use Rattle.idx_page.specs.PageLaws.{within-entry}
use Rattle.idx_leaf.specs.EntryLaws.{listed-within}
use Rattle.idx_entries.proofs.GatherLaws.{spread, two_bytes}
use Rattle.idx_entries.proofs.Room.gather_two.Goals as goal

pub entries_between-requires : goal.entries_between-requires
entries_between-requires c =
    let w = listed-within c.requires.0 in (record { key = w.key; count = omega (arith, w.count, c.requires.1); page = w.page }, omega arith)

pub number_bytes-requires : goal.number_bytes-requires
number_bytes-requires c = within-entry _ (listed-within c.requires.0) c.requires.1

pub larger_key-requires : goal.larger_key-requires
larger_key-requires c = within-entry _ (listed-within c.requires.0) c.requires.1

pub entries_between-requires-2 : goal.entries_between-requires-2
entries_between-requires-2 c = (listed-within c.requires.0, omega (arith, c.requires.1))

pub returns : goal.returns
returns c = cc (two_bytes c.args.key.now c.requires.0 c.requires.1 c.args.child.0 c.args.new.0)

pub push-requires : goal.push-requires
push-requires c =
    let s = spread c.args.i c.requires.0 (omega (arith, c.requires.1)) in
    let t = spread (c.args.i + 1) c.requires.0 (omega (arith, c.requires.1)) in
    omega arith

pub push-requires-2 : goal.push-requires-2
push-requires-2 c =
    let s = spread c.args.i c.requires.0 (omega (arith, c.requires.1)) in
    let t = spread (c.args.i + 1) c.requires.0 (omega (arith, c.requires.1)) in
    omega arith

pub push-requires-3 : goal.push-requires-3
push-requires-3 c =
    let s = spread c.args.i c.requires.0 (omega (arith, c.requires.1)) in
    let t = spread (c.args.i + 1) c.requires.0 (omega (arith, c.requires.1)) in
    omega arith

pub push-requires-4 : goal.push-requires-4
push-requires-4 c =
    let s = spread c.args.i c.requires.0 (omega (arith, c.requires.1)) in
    let t = spread (c.args.i + 1) c.requires.0 (omega (arith, c.requires.1)) in
    omega arith

pub push_child-requires : goal.push_child-requires
push_child-requires c =
    let s = spread c.args.i c.requires.0 (omega (arith, c.requires.1)) in
    let t = spread (c.args.i + 1) c.requires.0 (omega (arith, c.requires.1)) in
    omega arith

pub push-requires-5 : goal.push-requires-5
push-requires-5 c =
    let s = spread c.args.i c.requires.0 (omega (arith, c.requires.1)) in
    let t = spread (c.args.i + 1) c.requires.0 (omega (arith, c.requires.1)) in
    omega arith
