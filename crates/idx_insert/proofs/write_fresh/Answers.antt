-- The header, then the root, at whose end the file ends.
use Rattle.idx_insert.specs.CallLaws.{fresh-stored}
use Rattle.idx_insert.proofs.write_fresh.Goals as goal

pub returns : goal.returns
returns c = fresh-stored _ _ _ _ _ _ c.next_page.ensures c.new_header.ensures c.none.ensures.1 c.new_page.ensures
