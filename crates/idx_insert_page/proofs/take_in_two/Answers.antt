-- What is gathered reads as the rule's entries; a page without entry i has none to replace.
use Rattle.std.proofs.Common.{refl, arith}
use Rattle.idx_entries.proofs.GatherLaws.{counted, spread}
use Rattle.idx_entries.proofs.FitLaws.{one_more, two-gathered}
use Rattle.idx_insert_page.specs.StepLaws.{two_for_some, two_for_none}
use Rattle.idx_insert_page.proofs.take_in_two.Goals as goal

pub returns-then-count-i : goal.returns-then-count-i
returns-then-count-i c = two_for_none _ _ _ _ _ _ _ _ (omega (arith, c.entry_count-count.ensures, c.if-count-i.true))

pub overflow_add-count : goal.overflow_add-count
overflow_add-count c =
    let s = spread c.entry_count-count.result (counted (c.requires.0, c.requires.1) c.entry_count-count.ensures) (omega arith) in omega arith

pub entries-requires : goal.entries-requires
entries-requires c =
    let l = counted (c.requires.0, c.requires.1) c.entry_count-count.ensures in
    rw c.gather_two.ensures (two-gathered c.args.key.now _ _ _ l c.if-count-i.false).size

pub take_in-requires : goal.take_in-requires
take_in-requires c =
    (rw (c.entries.ensures.shape.0, c.entries.ensures.shape.1) (one_more (counted (c.requires.0, c.requires.1) c.entry_count-count.ensures)), c.requires.2)

pub returns : goal.returns
returns c =
    let l = counted (c.requires.0, c.requires.1) c.entry_count-count.ensures in
    let e = c.entries.ensures in
    two_for_some _ _ _ _ _ _ _ _ _ (omega (arith, c.entry_count-count.ensures, c.if-count-i.false)) refl
    (rw (
      e.shape.0,
      e.shape.1,
      e.bytes,
      c.gather_two.ensures,
      (two-gathered c.args.key.now c.args.i c.args.child.0 c.args.new.0 l c.if-count-i.false).read,
    ) at c.take_in.ensures)
