-- The pair passes the entries before entry `i`.
use Rattle.std.proofs.Common.{◌≡◌, ◌+◌, ◌-◌, length}
use Rattle.tree.specs.Position.{Passes, position}
use Rattle.idx_page.specs.Header.{max_levels}
use Rattle.idx_page.specs.Reading.{Item}
use Rattle.idx_leaf.specs.Leaf.{stored}
use Rattle.idx_leaf.specs.EntryLaws.{items_from}
use Rattle.idx_route.specs.Route.{first_up_to}
use Rattle.idx_route.proofs.chosen_record.Given as goal

abbrev pub invariant-loop-i : goal.invariant-loop-i
invariant-loop-i l =
    let k = length l.key in
    let passes : Passes Item = λ x y. first_up_to max_levels l.index (stored l.key l.number.0) y in
    position passes (items_from k l.index l.page.0 l.count 0) ≡ l.i + position passes (items_from k l.index l.page.0 (l.count - l.i) l.i)
