-- The page names the old head, and the header the page.
use Rattle.idx_free.specs.FreeLaws.{freed_by}
use Rattle.idx_free.proofs.free_page.Goals as goal

pub returns : goal.returns
returns c = freed_by _ _ c.free_pointer-next.ensures c.empty_page.ensures c.set_free.ensures
