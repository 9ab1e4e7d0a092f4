-- `tally_records`: both counts so far, and those of the records that are left, make the whole sheet's.
use Rattle.std.proofs.Common.{◌≡◌, ◌≤◌, ◌+◌, ◌-◌}
use Rattle.dilute_sheet.specs.Tally.{lines_at, refused_at, sum_after}
use Rattle.dilute_sheet.proofs.tally.tally_records.Given as goal

abbrev pub invariant-loop-number : goal.invariant-loop-number
invariant-loop-number l =
    let refused_at = refused_at l.fn.table l.fn.index l.fn.request in
    (l.lines ≤ l.number) × (l.refused ≤ l.number)
    × (l.lines + sum_after (lines_at l.fn.table) l.number (l.records - l.number) ≡ sum_after (lines_at l.fn.table) 0 l.records)
    × (l.refused + sum_after refused_at l.number (l.records - l.number) ≡ sum_after refused_at 0 l.records)
