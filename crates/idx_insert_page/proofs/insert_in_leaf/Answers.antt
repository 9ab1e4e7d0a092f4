-- What is gathered reads as the rule's entries.
use Rattle.std.proofs.Common.{arith}
use Rattle.idx_page.specs.Header.{features}
use Rattle.idx_page.specs.EntryOrder.{item_order}
use Rattle.idx_entries.proofs.GatherLaws.{counted, spread}
use Rattle.idx_entries.proofs.FitLaws.{one_more, pair-gathered}
use Rattle.idx_insert_page.proofs.insert_in_leaf.Goals as goal

pub overflow_add-count : goal.overflow_add-count
overflow_add-count c =
    let s = spread c.entry_count-count.result (counted (c.requires.0, c.requires.1) c.entry_count-count.ensures) (omega arith) in omega arith

pub entries-requires : goal.entries-requires
entries-requires c =
    let l = counted (c.requires.0, c.requires.1) c.entry_count-count.ensures in
    rw c.gather_pair.ensures (pair-gathered (item_order (features c.args.index.now)) c.args.key.now c.args.number.0 l).size

pub take_in-requires : goal.take_in-requires
take_in-requires c =
    (rw (c.entries.ensures.shape.0, c.entries.ensures.shape.1) (one_more (counted (c.requires.0, c.requires.1) c.entry_count-count.ensures)), c.requires.2)

pub returns : goal.returns
returns c =
    let l = counted (c.requires.0, c.requires.1) c.entry_count-count.ensures in
    let e = c.entries.ensures in
    rw (
      e.shape.0,
      e.shape.1,
      e.bytes,
      c.gather_pair.ensures,
      (pair-gathered (item_order (features c.args.index.now)) c.args.key.now c.args.number.0 l).read,
    ) at c.take_in.ensures
