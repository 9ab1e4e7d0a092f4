-- The first leaf pair under entry `at` of the page `above`, with the levels that are left, decides as that under entry `i` does.
use Rattle.std.proofs.Common.{◌≡◌, ◌+◌, ◌-◌, length}
use Rattle.idx_page.specs.Header.{max_levels}
use Rattle.idx_page.specs.Within.{Within}
use Rattle.idx_leaf.specs.Leaf.{stored}
use Rattle.idx_leaf.specs.EntryLaws.{item_at}
use Rattle.idx_route.specs.Route.{first_up_to}
use Rattle.idx_route.proofs.first_up_to.Given as goal

abbrev pub invariant-loop : goal.invariant-loop
invariant-loop l =
    let k = length l.key in
    let pair = stored l.key l.number.0 in
    Within l.index k l.above.0 (l.at + 1)
    × (first_up_to max_levels l.index pair (item_at k l.index l.fn.page.0 l.i)
    ≡ first_up_to (max_levels - l.counter) l.index pair (item_at k l.index l.above.0 l.at))
