-- The entries passed are below the key, and the first that is not ends the search.
use Rattle.std.proofs.Common.{rules, arith, sym, ◌∙◌, ◌≡◌, length}
use Rattle.idx_page.specs.KeyOrderLaws.{below, at_or_above}
use Rattle.idx_page.specs.PageLaws.{loop_end, loop_here, loop_later}
use Rattle.idx_page.specs.Page.{key_at}
use Rattle.idx_page.proofs.first_at_or_above.Goals as goal

pub returns-then-not-is_below : goal.returns-then-not-is_below
returns-then-not-is_below c =
    let keys = key_at c.args.index.now (length c.args.key.now) c.args.page.0 in
    let found = at_or_above _ _ c.compare_entry.ensures (sym c.is_below.ensures ∙ c.if-not-is_below.true) in
    (sym (c.loop-i.invariant ∙ loop_here keys _ _ c.loop-i.i c.loop-i-test.true found), search rules)

pub loop-i-preserved : goal.loop-i-preserved
loop-i-preserved c =
    let keys = key_at c.args.index.now (length c.args.key.now) c.args.page.0 in
    let lower = below _ _ c.compare_entry.ensures (sym c.is_below.ensures ∙ c.if-not-is_below.false) in
    c.loop-i.invariant ∙ loop_later keys _ _ c.loop-i.i c.loop-i-test.true lower

pub returns : goal.returns
returns c =
    let keys = key_at c.args.index.now (length c.args.key.now) c.args.page.0 in
    let end : c.args.count ≡ c.loop-i.i = omega arith in
    (end ∙ sym (c.loop-i.invariant ∙ loop_end keys _ _ c.loop-i.i c.loop-i-test.false), search rules)
