-- `leaf_entry`: test for test.
use Rattle.idx_leaves.specs.LeafLaws.{leaf-later}
use Rattle.idx_leaves.proofs.leaf_entry.Goals as goal

pub returns-then-record_at-ne0 : goal.returns-then-record_at-ne0
returns-then-record_at-ne0 c =
    leaf-later _ _ _ _ _ c.record_at.ensures _ _ _ c.if-record_at-ne0.true (λ j. (c.type_inv.index j).fits) c.requires.before c.requires.here
    c.requires.compared c.key_order.ensures c.is_lt.ensures
