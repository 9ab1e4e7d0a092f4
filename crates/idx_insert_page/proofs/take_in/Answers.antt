-- The rule's three cases, by its two tests.
use Rattle.std.proofs.Common.{◌∙◌, sym, arith}
use Rattle.idx_page.specs.HeaderLaws.{is-page}
use Rattle.idx_leaf.specs.ItemLaws.{length-items}
use Rattle.idx_insert_page.specs.StepLaws.{takes-kept, takes-split, takes_none}
use Rattle.idx_insert_page.proofs.take_in.Goals as goal

pub with_entries-requires : goal.with_entries-requires
with_entries-requires c =
    record {
      key = c.requires.0.key;
      count = omega (arith, c.if-entries-capacity.true, c.capacity.ensures);
      page = (is-page _ _ c.requires.0.page).high;
    }

pub returns-then-entries-capacity : goal.returns-then-entries-capacity
returns-then-entries-capacity c =
    takes-kept c.args.entries.k c.args.index.now c.args.page.0 _ c.args.supply
    (rw length-items (omega (arith, c.if-entries-capacity.true, c.capacity.ensures))) c.with_entries.ensures

pub returns-then-not-is_page : goal.returns-then-not-is_page
returns-then-not-is_page c =
    takes_none c.args.entries.k c.args.index.now c.args.page.0 _ c.args.supply c.take_page-taken.ensures
    (rw length-items (omega (arith, c.if-entries-capacity.false, c.capacity.ensures))) (sym c.is_page.ensures ∙ c.if-not-is_page.true)

pub returns : goal.returns
returns c =
    takes-split c.args.entries.k c.args.index.now c.args.page.0 _ c.args.supply c.take_page-taken.ensures
    (rw length-items (omega (arith, c.if-entries-capacity.false, c.capacity.ensures))) (sym c.is_page.ensures ∙ c.if-not-is_page.false)
    c.split_page.ensures
