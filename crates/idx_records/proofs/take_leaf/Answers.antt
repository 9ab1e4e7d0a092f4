-- `take_leaf`: each entry moves the place by one at most.
use Rattle.std.proofs.Common.{◌≡◌, ◌-◌, refl, ◌∙◌, arith}
use Rattle.idx_records.specs.GatherLaws.{entries-end, entries-on, taken_at}
use Rattle.idx_records.proofs.take_leaf.Goals as goal

pub loop-i-init : goal.loop-i-init
loop-i-init c = let whole : c.args.count - 0 ≡ c.args.count = omega arith in (omega arith, refl, rw whole refl)

pub take_entry-at-requires-clause-within : goal.take_entry-at-requires-clause-within
take_entry-at-requires-clause-within c = c.requires.within.each c.loop-i.i c.loop-i-test.true

pub take_entry-at-requires-clause-room : goal.take_entry-at-requires-clause-room
take_entry-at-requires-clause-room c = omega (arith, c.requires.room, c.loop-i.invariant.1)

pub take_entry-at-requires-clause-few : goal.take_entry-at-requires-clause-few
take_entry-at-requires-clause-few c = omega (arith, c.requires.few, c.loop-i.invariant.0, c.loop-i-test.true)

pub loop-i-preserved : goal.loop-i-preserved
loop-i-preserved c =
    let said = taken_at _ _ _ _ _ _ _ c.take_entry-at.ensures in (
      omega (arith, said.0, c.loop-i.invariant.0),
      said.1 ∙ c.loop-i.invariant.1,
      entries-on _ _ _ _ _ _ _ _ _ _ c.loop-i.invariant.2 c.loop-i-test.true _ _ c.take_entry-at.ensures,
    )

pub returns : goal.returns
returns c = entries-end _ _ _ _ _ _ _ _ _ _ c.loop-i.invariant.2 c.loop-i-test.false
