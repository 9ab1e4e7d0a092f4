-- `idx_path::path_from` meets its contract, by induction on the levels left, which fall with each call. Assumes nothing.
use Rattle.std.proofs.Common.{◌-◌, length, ◌∙◌, arith}
use Rattle.idx_leaf.specs.Leaf.{stored}
use Rattle.idx_route.specs.VisitLaws.{visited-leaf}
use Rattle.idx_path.specs.Room.{path_from}
use Rattle.idx_path.specs.RoomLaws.{path-levels, path-bad, path-leaf, path-child}
use Rattle.idx_path.proofs.+path_from.Goals as goal

pub returns-then-levels-eq0 : goal.returns-then-levels-eq0
unfolding path_from
returns-then-levels-eq0 t c = c.empty_path.ensures ∙ rw c.if-levels-eq0.true

-- the visit met a leaf, so a page
pub is_present-requires : goal.is_present-requires
is_present-requires t c = (c.requires.0, (visited-leaf _ _ _ c.in-Leaf.ensures).0)

-- a path has no more levels than were left
pub on_top-requires-in-Child : goal.on_top-requires-in-Child
on_top-requires-in-Child t c =
    let few =
    path-levels (length c.args.key.now) (c.args.levels - 1) c.args.index.now (stored c.args.key.now c.args.number.0) c.in-Child.child.0 in
    rw c.path_from.ensures (omega (arith, few, c.requires.1))

-- a page is visited only if levels are left
pub returns-in-Bad : goal.returns-in-Bad
returns-in-Bad t c = c.empty_path-in-Bad.ensures ∙ path-bad _ _ _ _ c.if-levels-eq0.false c.in-Bad.ensures

pub returns-in-Leaf : goal.returns-in-Leaf
returns-in-Leaf t c =
    c.on_top.ensures
    ∙ rw c.empty_path-in-Leaf.ensures (path-leaf _ _ _ c.is_full-full.ensures _ c.if-levels-eq0.false c.in-Leaf.ensures c.is_present.ensures)

pub returns-in-Child : goal.returns-in-Child
returns-in-Child t c =
    c.on_top-in-Child.ensures
    ∙ path-child _ _ _ c.is_full-full.ensures _ _ _ c.if-levels-eq0.false c.in-Child.ensures c.path_from.ensures
