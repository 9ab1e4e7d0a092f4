-- `leaves_good`: the entries from `page` on decide, with `count` entries counted, and each page passed had at most 500.
use Rattle.std.specs.Prelude.{◌-◌, ◌*◌, ◌≤◌}
use Rattle.idx_page.specs.Page.{entry_area}
use Rattle.idx_sound.specs.AuditTest.{max_pages}
use Rattle.idx_match.specs.StepLaws.{LeavesLeft}
use Rattle.idx_match.proofs.leaves_good.Given as goal

abbrev pub invariant-loop : goal.invariant-loop
invariant-loop l =
    (l.count ≤ entry_area * l.counter) × LeavesLeft l.table l.column l.file.bytes.now l.file.size l.fn.first.0 l.page.0 l.count (max_pages - l.counter)
