-- The parts, one behind the other, are the bytes of the rule's entries.
use Rattle.std.proofs.Common.{arith}
use Rattle.octets.specs.Bytes.{to_be32}
use Rattle.idx_page.specs.Header.{features}
use Rattle.idx_page.specs.EntryOrder.{item_order}
use Rattle.idx_leaf.specs.EntryLaws.{listed-within}
use Rattle.idx_entries.proofs.GatherLaws.{pair-spread, pair_bytes}
use Rattle.idx_entries.proofs.Room.gather_pair.Goals as goal

pub entries_between-requires : goal.entries_between-requires
entries_between-requires c =
    let s = pair-spread c.args.index.now c.args.key.now c.args.number.0 c.requires c.place-i.ensures in (record { key = s.key; count = omega arith; page = s.inside }, omega arith)

pub entries_between-requires-2 : goal.entries_between-requires-2
entries_between-requires-2 c = let s = pair-spread c.args.index.now c.args.key.now c.args.number.0 c.requires c.place-i.ensures in (listed-within c.requires, s.up)

pub returns : goal.returns
returns c = cc (pair_bytes (item_order (features c.args.index.now)) c.args.key.now (to_be32 c.args.number.0) c.requires c.place-i.ensures)

pub push-requires : goal.push-requires
push-requires c = let s = pair-spread c.args.index.now c.args.key.now c.args.number.0 c.requires c.place-i.ensures in omega arith

pub push-requires-2 : goal.push-requires-2
push-requires-2 c = let s = pair-spread c.args.index.now c.args.key.now c.args.number.0 c.requires c.place-i.ensures in omega arith

pub push_record_number-requires : goal.push_record_number-requires
push_record_number-requires c = let s = pair-spread c.args.index.now c.args.key.now c.args.number.0 c.requires c.place-i.ensures in omega arith

pub push-requires-3 : goal.push-requires-3
push-requires-3 c = let s = pair-spread c.args.index.now c.args.key.now c.args.number.0 c.requires c.place-i.ensures in omega arith
