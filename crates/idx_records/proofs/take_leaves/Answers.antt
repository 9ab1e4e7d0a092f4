-- `take_leaves`: a leaf hands on to the next, and where no page follows all are taken.
use Rattle.std.proofs.Common.{◌≤◌, refl, sym, ◌∙◌, arith}
use Rattle.idx_keys.specs.EntryLaws.{entries-within}
use Rattle.idx_page.specs.Page.{entry_area}
use Rattle.idx_match.specs.StepLaws.{entries-few}
use Rattle.idx_records.specs.GatherLaws.{leaf-at, leaves-end, leaves-none, leaves-on}
use Rattle.idx_records.proofs.take_leaves.Goals as goal

pub loop-init : goal.loop-init
loop-init c = (omega arith, refl, refl)

pub returns-then-not-is_page-clause-taken : goal.returns-then-not-is_page-clause-taken
returns-then-not-is_page-clause-taken c =
    leaves-none _ _ _ _ _ _ _ _ _ _ c.loop.invariant.2 (sym c.is_page.ensures.test ∙ c.if-not-is_page.true)

pub take_leaf-at-requires-clause-within : goal.take_leaf-at-requires-clause-within
take_leaf-at-requires-clause-within c =
    rw c.requires.length (entries-within _ _ _ _ _ c.entry_count-entries.ensures c.args.file.now.inside)

pub take_leaf-at-requires-clause-room : goal.take_leaf-at-requires-clause-room
take_leaf-at-requires-clause-room c = omega (arith, c.requires.room, c.loop.invariant.1)

pub take_leaf-at-requires-clause-few : goal.take_leaf-at-requires-clause-few
take_leaf-at-requires-clause-few c =
    let few : c.entry_count-entries.result ≤ entry_area = rw c.entry_count-entries.ensures (entries-few _ _ _ _) in
    omega (arith, few, c.loop.invariant.0, c.loop-test.true)

pub loop-preserved : goal.loop-preserved
loop-preserved c =
    let few : c.entry_count-entries.result ≤ entry_area = rw c.entry_count-entries.ensures (entries-few _ _ _ _) in
    let said = leaf-at _ _ _ _ _ _ _ _ _ c.take_leaf-at.ensures in
    let more = c.loop-test.true in (
      omega (arith, said.0, c.loop.invariant.0, few),
      said.1 ∙ c.loop.invariant.1,
      leaves-on _ _ _ _ _ _ _ _ _ _ c.loop.invariant.2 _ _ _ _ _ (omega arith) (omega arith) (sym c.is_page.ensures.test ∙ c.if-not-is_page.false)
          (rw (sym c.requires.length) at c.entry_count-entries.ensures) c.take_leaf-at.ensures c.at.ensures.right,
    )

pub returns-clause-taken : goal.returns-clause-taken
returns-clause-taken c = leaves-end _ _ _ _ _ _ _ _ _ _ c.loop.invariant.2 (omega (arith, c.loop-test.false))
