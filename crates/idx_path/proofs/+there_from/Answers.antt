-- `idx_path::there_from` meets its contract, by induction on the levels left, which fall with each call. Assumes nothing.
use Rattle.std.proofs.Common.{◌∙◌}
use Rattle.idx_route.specs.VisitLaws.{visited-leaf}
use Rattle.idx_path.specs.Presence.{there_from}
use Rattle.idx_path.specs.PresenceLaws.{there-bad, there-leaf, there-child}
use Rattle.idx_path.proofs.+there_from.Goals as goal

pub returns-then-levels-eq0 : goal.returns-then-levels-eq0
unfolding there_from
returns-then-levels-eq0 t c = rw c.if-levels-eq0.true

-- the visit met a leaf, so a page
pub is_present-requires : goal.is_present-requires
is_present-requires t c = (c.requires, (visited-leaf _ _ _ c.in-Leaf.ensures).0)

-- a page is visited only if levels are left
pub returns-in-Bad : goal.returns-in-Bad
returns-in-Bad t c = there-bad _ _ _ _ c.if-levels-eq0.false c.in-Bad.ensures

pub returns-in-Leaf : goal.returns-in-Leaf
returns-in-Leaf t c = c.is_present.ensures ∙ there-leaf _ _ _ _ c.if-levels-eq0.false c.in-Leaf.ensures

pub returns-in-Child : goal.returns-in-Child
returns-in-Child t c = c.there_from.ensures ∙ there-child _ _ _ _ _ _ c.if-levels-eq0.false c.in-Child.ensures
