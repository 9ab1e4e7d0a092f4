-- The text's place lies in its file.
use Rattle.dbf_cell.specs.CellLaws.{text_within}
use Rattle.dbf_cell.proofs.text.Goals as goal

pub text_part-requires : goal.text_part-requires
text_part-requires c = rw c.text_place.ensures (text_within _ _ _ _)
