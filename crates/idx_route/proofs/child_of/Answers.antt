-- The number of entry i, or 0 if the page has no such entry.
use Rattle.std.proofs.Common.{◌∙◌, arith}
use Rattle.idx_page.specs.PageLaws.{within-entry}
use Rattle.idx_leaf.specs.Leaf.{items_in}
use Rattle.idx_leaf.specs.EntryLaws.{listed-within}
use Rattle.idx_leaf.specs.SearchLaws.{counted-some}
use Rattle.idx_route.specs.RouteLaws.{no_child, child-listed}
use Rattle.idx_route.proofs.child_of.Goals as goal

pub returns-then-entry_count-i : goal.returns-then-entry_count-i
returns-then-entry_count-i c =
    no_child c.args.i (items_in c.args.k c.args.index.now c.args.page.0) (omega (arith, c.entry_count.ensures, c.if-entry_count-i.true))

pub child-requires : goal.child-requires
child-requires c = within-entry _ (listed-within (counted-some c.requires c.entry_count.ensures (omega arith))) c.if-entry_count-i.false

pub returns : goal.returns
returns c = c.child.ensures ∙ child-listed (counted-some c.requires c.entry_count.ensures (omega arith)) _ c.if-entry_count-i.false
