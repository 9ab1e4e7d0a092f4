-- In `ndx_audit::Walk::pairs` the pairs from pair `i` on, after what the walk knows then, come to what all pairs come to.
use Rattle.std.proofs.Common.{◌≡◌, ◌-◌}
use Rattle.ndx_page.specs.Page.{record_at, key_at}
use Rattle.ndx_audit.specs.State.{state}
use Rattle.ndx_audit.specs.Steps.{items_from}
use Rattle.ndx_audit.proofs.Walk.pairs.Given as goal

abbrev pub invariant-loop-i : goal.invariant-loop-i
invariant-loop-i l =
    let pairs = items_from (key_at l.index.bytes.now l.page.0) (record_at l.index.bytes.now l.page.0) in
    pairs l.count 0 (state l.initial.self) ≡ pairs (l.count - l.i) l.i (state l.walk)
