-- `leaves_good`: a leaf whose entries are good hands on to the next, another decides, and where no page follows the count does.
use Rattle.std.proofs.Common.{◌≤◌, refl, sym, ◌∙◌, arith}
use Rattle.idx_keys.specs.EntryLaws.{entries-within}
use Rattle.idx_page.specs.Page.{entry_area}
use Rattle.idx_match.specs.StepLaws.{entries-few, leaves-end, leaves-none, leaves_off, leaves-on}
use Rattle.idx_match.proofs.leaves_good.Goals as goal
use Rattle.idx_match.proofs.leaves_good.Goals.{else-loop-test, then-loop-test+then-not-is_page}

pub loop-init : goal.loop-init
loop-init c = (omega arith, refl)

pub leaf_good-requires-clause-within : goal.leaf_good-requires-clause-within
leaf_good-requires-clause-within c =
    rw c.requires.length (entries-within _ _ _ _ _ c.entry_count-entries.ensures c.args.file.now.inside)

pub returns-then-not-leaf_good : goal.returns-then-not-leaf_good
returns-then-not-leaf_good c =
    let more = c.loop-test.true in
    leaves_off _ c.args.column _ _ _ _ _ _ c.loop.invariant.1 _ _ (omega arith) (sym c.is_page.ensures.test ∙ c.if-not-is_page.false)
    (rw (sym c.requires.length) at c.entry_count-entries.ensures) c.leaf_good.ensures c.if-not-leaf_good.true

pub loop-preserved : goal.loop-preserved
loop-preserved c =
    let few : c.entry_count-entries.result ≤ entry_area = rw c.entry_count-entries.ensures (entries-few _ _ _ _) in
    let more = c.loop-test.true in (
      omega (arith, c.loop.invariant.0, few),
      leaves-on _ c.args.column _ _ _ _ _ _ c.loop.invariant.1 _ _ (omega arith) (sym c.is_page.ensures.test ∙ c.if-not-is_page.false)
          (rw (sym c.requires.length) at c.entry_count-entries.ensures) c.leaf_good.ensures _ _ c.at.ensures.right c.if-not-leaf_good.false (omega arith),
    )

pub overflow_add-count : goal.overflow_add-count
overflow_add-count c =
    let few : c.entry_count-entries.result ≤ entry_area = rw c.entry_count-entries.ensures (entries-few _ _ _ _) in
    omega (arith, few, c.loop.invariant.0, c.loop-test.true)

pub returns : goal.returns
returns c =
    elim c.loop-test.branch [
      | else-loop-test w ↦ leaves-end _ c.args.column _ _ _ _ _ _ c.loop.invariant.1 (omega (arith, w.loop-test.false))
      | then-loop-test+then-not-is_page w ↦ leaves-none _ c.args.column _ _ _ _ _ _ c.loop.invariant.1
          (sym w.is_page.ensures.test ∙ w.if-not-is_page.true)
    ]
