-- `later_entries`: an entry that passes hands on to the next, one that does not decides.
use Rattle.std.proofs.Common.{refl, rules}
use Rattle.idx_leaves.specs.LeafLaws.{leaf-inside, leaf-end, leaf_off, leaf-on}
use Rattle.idx_leaves.proofs.later_entries.Goals as goal

pub loop-init : goal.loop-init
loop-init c = record { place = c.entry_offset-at.ensures; before = c.requires.before; left = refl }

pub leaf_entry-requires-clause-here : goal.leaf_entry-requires-clause-here
leaf_entry-requires-clause-here c =
    leaf-inside _ _ _ _ c.loop.counter c.loop.at c.requires.within c.loop-test.true c.loop.invariant.place

pub leaf_entry-requires-clause-before : goal.leaf_entry-requires-clause-before
leaf_entry-requires-clause-before c = c.loop.invariant.before

pub returns-then-not-leaf_entry : goal.returns-then-not-leaf_entry
returns-then-not-leaf_entry c =
    leaf_off _ _ _ _ _ _ _ _ _ c.loop.invariant c.loop-test.true _ c.leaf_entry.ensures c.if-not-leaf_entry.true

pub overflow_add-at-in-loop : goal.overflow_add-at-in-loop
overflow_add-at-in-loop c =
    let inside = leaf-inside _ _ _ _ c.loop.counter c.loop.at c.requires.within c.loop-test.true c.loop.invariant.place in
    search rules

pub loop-preserved : goal.loop-preserved
loop-preserved c =
    let inside = leaf-inside _ _ _ _ c.loop.counter c.loop.at c.requires.within c.loop-test.true c.loop.invariant.place in
    leaf-on _ _ _ _ _ _ _ _ _ c.loop.invariant c.loop-test.true _ c.leaf_entry.ensures c.if-not-leaf_entry.false inside

pub returns : goal.returns
returns c = leaf-end _ _ _ _ _ _ _ _ _ c.loop.invariant c.loop-test.false
