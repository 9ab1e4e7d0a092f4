-- The recursion of `ndx_audit::Walk::page` ends: the levels under the page fall with each call. In its loop the children from child `i` on, after what the
-- walk knows then, come to what all children come to.
use Rattle.std.proofs.Common.{◌≡◌, ◌-◌}
use Rattle.ndx_page.specs.Page.{lower_at, key_at}
use Rattle.ndx_audit.specs.State.{state}
use Rattle.ndx_audit.specs.Steps.{children_from}
use Rattle.ndx_audit.specs.PageLaws.{walk_under}
use Rattle.ndx_audit.proofs.Walk.+page.Given as goal

abbrev pub decreases-page : goal.decreases-page
decreases-page l = l.height

abbrev pub invariant-loop-i : goal.invariant-loop-i
invariant-loop-i l =
    let children = children_from (key_at l.index.bytes.now l.page.0) (lower_at l.index.bytes.now l.page.0) (walk_under l.index.bytes.now l.under) in
    children l.count 0 (state l.initial.self) ≡ children (l.count - l.i) l.i (state l.self)
