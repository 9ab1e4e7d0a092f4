-- The entries passed are below the pair, and the first that is not ends the search.
use Rattle.std.proofs.Common.{sym, ap, ◌∙◌, arith, ◌≡◌}
use Rattle.idx_page.specs.EntryOrder.{item_order}
use Rattle.idx_page.specs.PageLaws.{within-entry}
use Rattle.idx_leaf.specs.Leaf.{stored}
use Rattle.idx_leaf.specs.EntryLaws.{listed, listed-within, passed_count}
use Rattle.idx_leaf.specs.PairLaws.{passed-end, passed_stop, passed_on}
use Rattle.idx_leaf.proofs.pairs_below.Goals as goal

pub compare_pair-requires : goal.compare_pair-requires
compare_pair-requires c = within-entry c.loop-i.i (listed-within c.requires) c.loop-i-test.true

pub returns-then-is_ge : goal.returns-then-is_ge
returns-then-is_ge c =
    let pair = stored c.args.key.now c.args.number.0 in
    passed_stop _ _ _ pair _ c.loop-i.i c.loop-i.invariant c.loop-i-test.true (sym c.compare_pair.ensures.above ∙ sym c.is_ge.ensures ∙ c.if-is_ge.true)
    ∙ ap (passed_count (item_order 0) pair) (sym (listed c.requires))

pub loop-i-preserved : goal.loop-i-preserved
loop-i-preserved c =
    let pair = stored c.args.key.now c.args.number.0 in
    passed_on _ _ _ pair _ c.loop-i.i c.loop-i.invariant c.loop-i-test.true (sym c.compare_pair.ensures.above ∙ sym c.is_ge.ensures ∙ c.if-is_ge.false)

pub returns : goal.returns
returns c =
    let pair = stored c.args.key.now c.args.number.0 in
    let end : c.args.count ≡ c.loop-i.i = omega arith in
    end ∙ passed-end _ _ _ pair _ c.loop-i.i c.loop-i.invariant c.loop-i-test.false ∙ ap (passed_count (item_order 0) pair) (sym (listed c.requires))
