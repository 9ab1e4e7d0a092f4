-- The page gets no entries.
use Rattle.idx_page.specs.Reading.{items}
use Rattle.idx_free.proofs.empty_page.Goals as goal

pub returns : goal.returns
unfolding items
returns c = rw c.none.ensures.1 at c.new_page.ensures
