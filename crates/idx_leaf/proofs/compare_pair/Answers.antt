-- The keys decide, or, if they are equal, the record numbers.
use Rattle.std.proofs.Common.{rules}
use Rattle.idx_leaf.specs.PairLaws.{then_above, then_up_to}
use Rattle.idx_leaf.proofs.compare_pair.Goals as goal

pub returns-clause-above : goal.returns-clause-above
returns-clause-above c =
    let args = c.args in
    rw (c.then.ensures, c.cmp.ensures)
    (then_above args.index.now args.key.now args.page.0 args.i args.number.0 c.compare_entry.ensures (search rules) c.record_number-other.ensures)

pub returns-clause-up_to : goal.returns-clause-up_to
returns-clause-up_to c =
    let args = c.args in
    rw (c.then.ensures, c.cmp.ensures)
    (then_up_to args.index.now args.key.now args.page.0 args.i args.number.0 c.compare_entry.ensures (search rules) c.record_number-other.ensures)
