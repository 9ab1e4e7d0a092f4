-- The two stores are the rule's, in the rule's order.
use Rattle.idx_free.specs.FreeLaws.{unlinked_by}
use Rattle.idx_free.proofs.unlink_page.Goals as goal

pub returns : goal.returns
returns c = unlinked_by _ _ c.at.ensures.left c.at.ensures.right c.link_beyond.ensures c.link_before.ensures
