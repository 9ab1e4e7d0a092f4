-- In `ndx_audit::no_lower` the lower pages passed are 0, so that those from entry `i` on decide.
use Rattle.std.proofs.Common.{◌≡◌, ◌-◌}
use Rattle.ndx_page.specs.Page.{lower_at}
use Rattle.ndx_sound.specs.AuditTest.{zeros}
use Rattle.ndx_audit.proofs.no_lower.Given as goal

abbrev pub invariant-loop-i : goal.invariant-loop-i
invariant-loop-i l =
    zeros (lower_at l.index.bytes.now l.page.0) l.count 0 ≡ zeros (lower_at l.index.bytes.now l.page.0) (l.count - l.i) l.i
