-- The entries passed so far are below the pair.
use Rattle.std.proofs.Common.{◌≡◌, ◌+◌, ◌-◌, length}
use Rattle.idx_page.specs.EntryOrder.{item_order}
use Rattle.idx_leaf.specs.Leaf.{stored}
use Rattle.idx_leaf.specs.EntryLaws.{items_from, passed_count}
use Rattle.idx_leaf.proofs.pairs_below.Given as goal

abbrev pub invariant-loop-i : goal.invariant-loop-i
invariant-loop-i l =
    let k = length l.key in
    let item = stored l.key l.number.0 in
    passed_count (item_order 0) item (items_from k l.index l.page.0 l.count 0)
    ≡ l.i + passed_count (item_order 0) item (items_from k l.index l.page.0 (l.count - l.i) l.i)
