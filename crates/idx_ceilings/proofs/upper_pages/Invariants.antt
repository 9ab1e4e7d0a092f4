-- `upper_pages`: the pages passed have ceilings, so that those from `page` on decide, after pages that are exact if `exact` is true.
use Rattle.std.proofs.Common.{◌-◌}
use Rattle.idx_sound.specs.AuditTest.{max_pages}
use Rattle.idx_ceilings.specs.KeyLaws.{UpperPagesLeft}
use Rattle.idx_ceilings.proofs.upper_pages.Given as goal

abbrev pub invariant-loop : goal.invariant-loop
invariant-loop l = UpperPagesLeft l.file.bytes.now l.file.key_length l.file.size l.down l.under l.fn.first.0 l.exact l.page.0 (max_pages - l.counter)
