-- `idx_remove_pair::remove_under` meets its contract, by induction on the levels left, which fall with each call. Assumes nothing.
use Rattle.std.proofs.Common.{◌∙◌}
use Rattle.idx_route.specs.VisitLaws.{visited-leaf, visited-child}
use Rattle.idx_remove_page.specs.Removal.{remove_under}
use Rattle.idx_remove_page.specs.StepLaws.{under-bad, under-leaf, under-child, emptied-fits}
use Rattle.idx_remove_pair.proofs.+remove_under.Goals as goal

pub returns-then-levels-eq0 : goal.returns-then-levels-eq0
unfolding remove_under
returns-then-levels-eq0 t c = rw c.if-levels-eq0.true

-- the visit met a leaf, so a page
pub remove_in_leaf-requires : goal.remove_in_leaf-requires
remove_in_leaf-requires t c = (c.requires, (visited-leaf _ _ _ c.in-Leaf.ensures).0)

-- the visit met a page above a child, so a page
pub after_child-requires : goal.after_child-requires
after_child-requires t c = (
  c.requires,
  rw c.remove_under.auto.index (visited-child _ _ _ _ _ c.in-Child.ensures).0,
  rw c.remove_under.auto.index (emptied-fits _ _ _ _ _ c.in_ok-below-in-Child.below c.in_ok-below-in-Child.ensures),
)

-- a page is visited only if levels are left
pub returns-in-Bad : goal.returns-in-Bad
returns-in-Bad t c = under-bad _ _ _ _ c.if-levels-eq0.false c.in-Bad.ensures

pub returns-in-Leaf : goal.returns-in-Leaf
returns-in-Leaf t c = under-leaf _ _ _ _ c.if-levels-eq0.false c.in-Leaf.ensures ∙ c.remove_in_leaf.ensures

pub returns-in_err-below-in-Child : goal.returns-in_err-below-in-Child
returns-in_err-below-in-Child t c =
    rw c.from_residual.ensures (under-child _ _ _ _ _ _ c.if-levels-eq0.false c.in-Child.ensures c.in_err-below-in-Child.ensures)

pub returns-in_ok-below-in-Child : goal.returns-in_ok-below-in-Child
returns-in_ok-below-in-Child t c =
    under-child _ _ _ _ _ _ c.if-levels-eq0.false c.in-Child.ensures c.in_ok-below-in-Child.ensures ∙ c.after_child.ensures
