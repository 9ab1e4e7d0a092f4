-- The rule's two tests.
use Rattle.std.proofs.Common.{sym, ◌∙◌}
use Rattle.idx_page.specs.HeaderLaws.{is-page}
use Rattle.idx_route.specs.VisitLaws.{visit-bad, visit-leaf, visit-child}
use Rattle.idx_route.proofs.visit_page.Goals as goal

pub returns-then-not-is_page : goal.returns-then-not-is_page
returns-then-not-is_page c = visit-bad _ _ _ (sym c.if-not-is_page.ensures)

pub at-head-requires : goal.at-head-requires
at-head-requires c = (is-page _ _ (sym c.if-not-is_page.ensures)).high

pub returns-then-is_leaf : goal.returns-then-is_leaf
returns-then-is_leaf c = visit-leaf _ _ _ (sym c.if-not-is_page.ensures) c.at-head.ensures.attribute (sym c.is_leaf.ensures ∙ c.if-is_leaf.true)

pub chosen_entry-i-requires : goal.chosen_entry-i-requires
chosen_entry-i-requires c = (c.requires, sym c.if-not-is_page.ensures)

pub returns : goal.returns
returns c =
    visit-child _ _ _ (sym c.if-not-is_page.ensures) c.at-head.ensures.attribute (sym c.is_leaf.ensures ∙ c.if-is_leaf.false) c.chosen_entry-i.ensures
    c.child_of.ensures
