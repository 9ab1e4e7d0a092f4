-- `idx_insert_pair::insert_under` meets its contract, by induction on the levels left, which fall with each call. Assumes nothing.
use Rattle.std.proofs.Common.{◌∙◌, arith}
use Rattle.idx_insert_page.specs.Insertion.{insert_under}
use Rattle.idx_route.specs.VisitLaws.{visited-leaf, visited-child}
use Rattle.idx_insert_page.specs.StepLaws.{under-bad, under-leaf, under-child, next_fits}
use Rattle.idx_insert_pair.proofs.+insert_under.Goals as goal

pub returns-then-levels-eq0 : goal.returns-then-levels-eq0
unfolding insert_under
returns-then-levels-eq0 t c = rw c.if-levels-eq0.true

-- the visit met a leaf, so a page
pub insert_in_leaf-requires : goal.insert_in_leaf-requires
insert_in_leaf-requires t c =
    (c.requires.0, (visited-leaf _ _ _ c.in-Leaf.ensures).0, omega (arith, c.requires.1, c.if-levels-eq0.false))

-- the visit met a page above a child, so a page
pub after_child-requires : goal.after_child-requires
after_child-requires t c = (
  c.requires.0,
  rw c.insert_under.auto.index (visited-child _ _ _ _ _ c.in-Child.ensures).0,
  next_fits _ _ _ _ _ _ c.in_ok-below-in-Child.below c.in_ok-below-in-Child.ensures (omega (arith, c.requires.1, c.if-levels-eq0.false)),
)

-- a page is visited only if levels are left
pub returns-in-Bad : goal.returns-in-Bad
returns-in-Bad t c = under-bad _ _ _ _ _ c.if-levels-eq0.false c.in-Bad.ensures

pub returns-in-Leaf : goal.returns-in-Leaf
returns-in-Leaf t c = under-leaf _ _ _ _ _ c.if-levels-eq0.false c.in-Leaf.ensures ∙ c.insert_in_leaf.ensures

pub returns-in_err-below-in-Child : goal.returns-in_err-below-in-Child
returns-in_err-below-in-Child t c =
    rw c.from_residual.ensures (under-child _ _ _ _ _ _ _ c.if-levels-eq0.false c.in-Child.ensures c.in_err-below-in-Child.ensures)

pub returns-in_ok-below-in-Child : goal.returns-in_ok-below-in-Child
returns-in_ok-below-in-Child t c =
    under-child _ _ _ _ _ _ _ c.if-levels-eq0.false c.in-Child.ensures c.in_ok-below-in-Child.ensures ∙ c.after_child.ensures
