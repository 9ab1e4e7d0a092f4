-- An emptied root lies inside the buffer.
use Rattle.idx_page.specs.HeaderLaws.{is-page}
use Rattle.idx_remove_page.specs.StepLaws.{emptied_is}
use Rattle.idx_remove_pair.proofs.at_root.Goals as goal

pub empty_page-requires : goal.empty_page-requires
empty_page-requires c = (is-page _ _ (emptied_is _ _ _ c.in-Emptied.is c.requires)).high
