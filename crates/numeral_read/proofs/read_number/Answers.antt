-- The characters from the first on that is no blank end in what the text means.
use Rattle.std.proofs.Common.{sym, ◌∙◌}
use Rattle.std.proofs.lemmas.List.{take_rest}
use Rattle.numeral_scan.specs.ScanLaws.{shown_means}
use Rattle.numeral_read.proofs.read_number.Goals as goal

pub returns : goal.returns
returns c =
    rw (c.finish.ensures, c.take_all.ensures, c.new.ensures)
    (shown_means _ _ _ (sym c.format_good.ensures ∙ c.if-not-format_good.false) (take_rest c.args.text.now c.padding.result ∙ c.padding.ensures.1))
