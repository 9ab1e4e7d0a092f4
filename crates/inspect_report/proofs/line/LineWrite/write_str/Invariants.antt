-- The loop of `Line`'s `write_str` ends: each turn leaves less of the text.
use Rattle.std.proofs.Common.{length}
use Rattle.inspect_report.proofs.line.LineWrite.write_str.Given as goal

abbrev pub decreases-loop-rest : goal.decreases-loop-rest
decreases-loop-rest g l = length l.rest
