-- `take_leaves`: the leaves from `page` on are left, and each page passed had at most 500 entries.
use Rattle.std.specs.Prelude.{◌≡◌, ◌-◌, ◌*◌, ◌≤◌, length}
use Rattle.idx_page.specs.Page.{entry_area}
use Rattle.idx_sound.specs.AuditTest.{max_pages}
use Rattle.idx_records.specs.GatherLaws.{LeavesLeft}
use Rattle.idx_records.proofs.take_leaves.Given as goal

abbrev pub invariant-loop : goal.invariant-loop
invariant-loop l =
    (l.at ≤ entry_area * l.counter) × (length l.list ≡ length l.initial.list)
    × LeavesLeft l.file.bytes.now l.key l.file.size l.fn.first.0 l.room l.initial.list l.page.0 l.at l.list (max_pages - l.counter)
