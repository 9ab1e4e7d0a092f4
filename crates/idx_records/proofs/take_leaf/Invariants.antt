-- `take_leaf`: the entries from `i` on are left, and the place has moved by at most as many as were passed.
use Rattle.std.specs.Prelude.{◌≡◌, ◌+◌, ◌≤◌, length}
use Rattle.idx_records.specs.GatherLaws.{EntriesLeft}
use Rattle.idx_records.proofs.take_leaf.Given as goal

abbrev pub invariant-loop-i : goal.invariant-loop-i
invariant-loop-i l =
    (l.at ≤ l.from + l.i) × (length l.list ≡ length l.initial.list)
    × EntriesLeft l.index l.key l.page.0 l.count l.room l.from l.initial.list l.i l.at l.list
