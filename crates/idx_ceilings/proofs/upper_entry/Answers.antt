-- `upper_entry`: the key lies within the index.
use Rattle.std.proofs.Common.{arith}
use Rattle.idx_page.specs.PageLaws.{entry-within}
use Rattle.idx_ceilings.proofs.upper_entry.Goals as goal

pub key_order-requires : goal.key_order-requires
key_order-requires c =
    let w = entry-within {i = c.args.i} (c.requires.within.each c.args.i c.requires.some) in
    (omega (arith, c.in_ok-last.ensures.inside), omega (arith, w.inside, c.entry_offset-key.ensures))

pub below_next-requires-clause-inside : goal.below_next-requires-clause-inside
below_next-requires-clause-inside c =
    let w = entry-within {i = c.args.i} (c.requires.within.each c.args.i c.requires.some) in
    omega (arith, w.inside, c.entry_offset-key.ensures)
