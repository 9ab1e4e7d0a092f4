-- `leaf_good`: the entries passed are good, so that those from entry `i` on decide.
use Rattle.idx_match.specs.StepLaws.{EntriesLeft}
use Rattle.idx_match.proofs.leaf_good.Given as goal

abbrev pub invariant-loop-i : goal.invariant-loop-i
invariant-loop-i l = EntriesLeft l.table l.column l.index l.page.0 l.count l.i
