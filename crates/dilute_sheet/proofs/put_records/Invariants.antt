-- `put_records`: the lines of the records that are left, written from `end` on, make the whole sheet.
use Rattle.std.proofs.Common.{◌≡◌, ◌≤◌, ◌-◌, length}
use Rattle.dilute_sheet.specs.Output.{wrote}
use Rattle.dilute_sheet.specs.Sheet.{lines_after}
use Rattle.dilute_sheet.proofs.put_records.Given as goal

abbrev pub invariant-loop-number : goal.invariant-loop-number
invariant-loop-number l =
    (length l.out ≡ length l.fn.out) × (l.end ≤ length l.out)
    × (wrote l.out l.end (lines_after l.fn.table l.fn.index l.fn.request l.number (l.records - l.number))
    ≡ wrote l.fn.out 0 (lines_after l.fn.table l.fn.index l.fn.request 0 l.records))
