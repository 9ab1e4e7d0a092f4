-- The part from a start to an end is a window.
use Rattle.dbf_cell.specs.CellLaws.{part-window}
use Rattle.dbf_cell.proofs.part.Goals as goal

pub returns : goal.returns
returns c = part-window _ _ _
