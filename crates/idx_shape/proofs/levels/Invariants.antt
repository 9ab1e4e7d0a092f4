-- `levels`: the levels under the one that was checked last come to what those under the second come to.
use Rattle.std.specs.Prelude.{◌≡◌, ◌-◌}
use Rattle.idx_page.specs.Header.{max_levels}
use Rattle.idx_sound.specs.AuditTest.{levels_under}
use Rattle.idx_shape.specs.State.{level_of}
use Rattle.idx_shape.proofs.levels.Given as goal

abbrev pub invariant-loop : goal.invariant-loop
invariant-loop l =
    levels_under l.file.bytes.now l.file.key_length l.file.size (max_levels - 2) (level_of l.initial.level)
    ≡ levels_under l.file.bytes.now l.file.key_length l.file.size (max_levels - 2 - l.counter) (level_of l.level)
