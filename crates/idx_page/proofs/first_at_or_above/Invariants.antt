-- The search is the search in the entries from `i` on.
use Rattle.std.proofs.Common.{◌≡◌, ◌-◌, length}
use Rattle.idx_page.specs.Page.{key_at, first_at_or_above}
use Rattle.idx_page.proofs.first_at_or_above.Given as goal

abbrev pub invariant-loop-i : goal.invariant-loop-i
invariant-loop-i l =
    let keys = key_at l.index (length l.key) l.page.0 in
    first_at_or_above keys l.key l.count 0 ≡ first_at_or_above keys l.key (l.count - l.i) l.i
