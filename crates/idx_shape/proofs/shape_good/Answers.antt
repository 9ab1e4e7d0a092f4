-- `shape_good`: the last level decides, and then the free list.
use Rattle.std.proofs.Common.{arith}
use Rattle.idx_page.specs.HeaderLaws.{good-header}
use Rattle.idx_shape.specs.PassLaws.{shape-bad, shape-upper, shape-answer}
use Rattle.idx_shape.proofs.shape_good.Goals as goal

pub later_pages-requires : goal.later_pages-requires
later_pages-requires c = omega (arith, (good-header _ c.requires).least, c.new-file.ensures.size)

pub levels-requires : goal.levels-requires
levels-requires c = omega (arith, (good-header _ c.requires).least, c.new-file.ensures.size, c.later_pages.ensures)

pub returns-in_default : goal.returns-in_default
returns-in_default c =
    let file = c.new-file.ensures in
    shape-bad _ _ _ _ _ _ _ file.bytes file.key_length file.size c.root.ensures c.later_pages.ensures c.levels.ensures c.in_default.is

pub returns-then-level : goal.returns-then-level
returns-then-level c =
    let file = c.new-file.ensures in
    shape-answer _ _ _ _ _ _ _ file.bytes file.key_length file.size c.root.ensures c.later_pages.ensures c.levels.ensures _ c.in-Some.is c.if-level.true _ _
    c.free_pointer.ensures c.free_list.ensures

pub returns-else-level : goal.returns-else-level
returns-else-level c =
    let file = c.new-file.ensures in
    rw c.if-level.false
    (shape-upper _ _ _ _ _ _ _ file.bytes file.key_length file.size c.root.ensures c.later_pages.ensures c.levels.ensures _ c.in-Some.is c.if-level.false)
