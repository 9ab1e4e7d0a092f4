-- `text`: the text of a field that lies in the table lies in its file.
use Rattle.dbf_cell.specs.CellLaws.{at-within}
use Rattle.inspect_report.proofs.report.Report.text.Goals as goal

pub text_part-text-requires : goal.text_part-text-requires
text_part-text-requires g c = rw c.text_at-found.ensures (at-within _ _ _ _ _ c.requires.inside)
