-- `last_child`: the number of the last entry, if there is one.
use Rattle.std.proofs.Common.{◌-◌, arith}
use Rattle.idx_keys.specs.EntryLaws.{entries-within}
use Rattle.idx_ceilings.specs.CeilingLaws.{child-some}
use Rattle.idx_ceilings.proofs.last_child.Goals as goal

pub child-requires : goal.child-requires
child-requires c =
    let n = c.entry_count-count in
    (entries-within _ _ _ _ _ n.ensures c.args.file.now.inside).each (n.result - 1) (omega (arith, c.if-count-eq0.false))

pub returns : goal.returns
returns c = child-some _ _ _ _ _ _ c.entry_count-count.ensures c.if-count-eq0.false c.child.ensures
