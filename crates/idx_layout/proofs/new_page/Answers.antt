-- The head's stores and those of `with_entries` are the rule's one.
use Rattle.idx_layout.specs.WriteLaws.{new-page_by}
use Rattle.idx_layout.proofs.new_page.Goals as goal

pub returns : goal.returns
returns c = new-page_by _ _ _ _ _ _ c.set_attribute.ensures c.link_left.ensures c.link_right.ensures c.with_entries.ensures
