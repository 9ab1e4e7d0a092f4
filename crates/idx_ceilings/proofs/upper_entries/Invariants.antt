-- `upper_entries`: the entries passed have ceilings, so that those from entry `i` on decide, after an entry that is exact if `exact` is true.
use Rattle.idx_ceilings.specs.CeilingLaws.{UpperLeft}
use Rattle.idx_ceilings.proofs.upper_entries.Given as goal

abbrev pub invariant-loop-i : goal.invariant-loop-i
invariant-loop-i l = UpperLeft l.file.bytes.now l.file.key_length l.file.size l.down l.under l.page.0 l.count l.exact l.i
