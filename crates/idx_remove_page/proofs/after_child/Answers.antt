-- The page and its emptied child lie inside the buffer.
use Rattle.std.proofs.Common.{arith}
use Rattle.idx_page.specs.HeaderLaws.{is-page}
use Rattle.idx_remove_page.specs.StepLaws.{emptied_is}
use Rattle.idx_remove_page.proofs.after_child.Goals as goal

pub unlink_page-requires : goal.unlink_page-requires
unlink_page-requires c = (is-page _ _ (emptied_is _ _ _ c.in-Emptied.is c.requires.2)).high

pub free_page-requires : goal.free_page-requires
free_page-requires c = let h = is-page _ _ (emptied_is _ _ _ c.in-Emptied.is c.requires.2) in omega (arith, h.high)
