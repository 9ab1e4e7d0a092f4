-- `last_under`: the levels that are left lead from `lower` to where all lead from `page`.
use Rattle.std.proofs.Common.{◌≡◌, ◌-◌}
use Rattle.idx_sound.specs.AuditTest.{down, last_child}
use Rattle.idx_ceilings.proofs.last_under.Given as goal

abbrev pub invariant-loop : goal.invariant-loop
invariant-loop l =
    down (last_child l.file.bytes.now l.file.key_length l.file.size) l.under l.fn.page.0
    ≡ down (last_child l.file.bytes.now l.file.key_length l.file.size) (l.under - l.counter) l.lower.0
