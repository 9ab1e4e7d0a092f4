-- `leaf_good`: an entry that is good hands on to the next, another decides.
use Rattle.idx_match.specs.StepLaws.{entries-end, entries_off, entries-on}
use Rattle.idx_match.proofs.leaf_good.Goals as goal

pub entry_good-requires : goal.entry_good-requires
entry_good-requires c = (c.requires.column, c.requires.within.each c.loop-i.i c.loop-i-test.true)

pub returns-then-not-entry_good : goal.returns-then-not-entry_good
returns-then-not-entry_good c =
    entries_off _ c.args.column _ _ _ _ c.loop-i.invariant c.loop-i-test.true _ c.entry_good.ensures c.if-not-entry_good.true

pub loop-i-preserved : goal.loop-i-preserved
loop-i-preserved c =
    entries-on _ c.args.column _ _ _ _ c.loop-i.invariant c.loop-i-test.true _ c.entry_good.ensures c.if-not-entry_good.false

pub returns : goal.returns
returns c = entries-end _ c.args.column _ _ _ _ c.loop-i.invariant c.loop-i-test.false
