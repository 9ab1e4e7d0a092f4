-- Down by first entries, as the rule goes.
use Rattle.std.proofs.Common.{refl, sym, ◌∙◌, arith, ◌≡◌, ◌-◌, ◌+◌, ◌<◌}
use Rattle.idx_page.specs.Header.{max_levels}
use Rattle.idx_page.specs.HeaderLaws.{is-page}
use Rattle.idx_page.specs.PageLaws.{within-entry}
use Rattle.idx_leaf.specs.Leaf.{stored}
use Rattle.idx_leaf.specs.EntryLaws.{listed-within}
use Rattle.idx_leaf.specs.SearchLaws.{counted-some}
use Rattle.idx_route.specs.RouteLaws.{first-end, first-none, first_leaf_lem, first-upper}
use Rattle.idx_route.proofs.first_up_to.Goals as goal

pub returns-then-entry_count-eq0 : goal.returns-then-entry_count-eq0
returns-then-entry_count-eq0 c =
    let pair = stored c.args.key.now c.args.number.0 in
    c.key_up_to.ensures
    ∙ first-none c.args.index.now pair _ _ _ c.child-child.ensures (max_levels - c.loop.counter) (λ z. omega arith)
    (sym c.if-entry_count-eq0.true ∙ c.entry_count.ensures)
    ∙ sym c.loop.invariant.1

pub at-head-requires : goal.at-head-requires
at-head-requires c = (is-page _ _ (counted-some c.loop.invariant.0.key c.entry_count.ensures c.if-entry_count-eq0.false).page).high

pub compare_pair-requires : goal.compare_pair-requires
compare_pair-requires c =
    let some : 0 < c.entry_count.result = omega (arith, c.if-entry_count-eq0.false) in
    within-entry 0 (listed-within (counted-some c.loop.invariant.0.key c.entry_count.ensures c.if-entry_count-eq0.false)) some

pub returns-then-is_leaf : goal.returns-then-is_leaf
returns-then-is_leaf c =
    let pair = stored c.args.key.now c.args.number.0 in
    let leaf = rw c.at-head.ensures.attribute at (sym c.is_leaf.ensures ∙ c.if-is_leaf.true) in
    c.is_le.ensures ∙ c.compare_pair.ensures.up_to
    ∙ first_leaf_lem c.args.index.now pair _ _ _ c.child-child.ensures
    (counted-some c.loop.invariant.0.key c.entry_count.ensures c.if-entry_count-eq0.false) c.if-entry_count-eq0.false
    (max_levels - c.loop.counter) (λ z. omega arith) leaf
    ∙ sym c.loop.invariant.1

pub loop-preserved : goal.loop-preserved
loop-preserved c =
    let some : 0 < c.entry_count.result = omega (arith, c.if-entry_count-eq0.false) in
    let pair = stored c.args.key.now c.args.number.0 in
    let upper = rw c.at-head.ensures.attribute at (sym c.is_leaf.ensures ∙ c.if-is_leaf.false) in
    let next : max_levels - (c.loop.counter + 1) ≡ max_levels - c.loop.counter - 1 = omega arith in (
      within-entry 0 (listed-within (counted-some c.loop.invariant.0.key c.entry_count.ensures c.if-entry_count-eq0.false)) some,
      rw next
          (c.loop.invariant.1
          ∙ sym (first-upper c.args.index.now pair _ _ _ c.child-child.ensures
          (counted-some c.loop.invariant.0.key c.entry_count.ensures c.if-entry_count-eq0.false) c.if-entry_count-eq0.false
          (max_levels - c.loop.counter) (λ z. omega arith) upper)),
    )

pub returns : goal.returns
returns c =
    let pair = stored c.args.key.now c.args.number.0 in
    c.key_up_to-2.ensures ∙ first-end c.args.index.now pair c.loop.above.0 c.loop.at _ refl (max_levels - c.loop.counter) (omega arith) ∙ sym c.loop.invariant.1
