-- The stores are the rule's, in the rule's order, and either half fits its page.
use Rattle.std.proofs.Common.{arith}
use Rattle.idx_layout.specs.WriteLaws.{halves, split_by}
use Rattle.idx_layout.proofs.split_page.Goals as goal

pub at-head-requires : goal.at-head-requires
at-head-requires c = (halves c.requires.0 c.requires.1).inside

pub with_entries-requires : goal.with_entries-requires
with_entries-requires c =
    let parts = c.split_at.ensures in rw (parts.keys.0, parts.counts.0) (halves c.requires.0 c.requires.1).lower

pub set_attribute-requires : goal.set_attribute-requires
set_attribute-requires c = let h = halves c.requires.0 c.requires.1 in omega arith

pub link_right-requires : goal.link_right-requires
link_right-requires c = let h = halves c.requires.0 c.requires.1 in omega arith

pub new_page-requires : goal.new_page-requires
new_page-requires c =
    let h = halves c.requires.0 c.requires.1 in
    let parts = c.split_at.ensures in
    rw (parts.keys.1, parts.counts.1) (record { key = h.upper.key; count = h.upper.count; page = omega arith })

pub returns : goal.returns
returns c =
    let parts = c.split_at.ensures in
    split_by _ _ _ _ _ _ c.at-head.ensures.attribute c.at-head.ensures.right
    (rw (parts.keys.0, parts.counts.0, parts.first) at c.with_entries.ensures) c.set_attribute.ensures c.link_right.ensures c.link_beyond.ensures
    (rw (parts.keys.1, parts.counts.1, parts.rest) at c.new_page.ensures)
