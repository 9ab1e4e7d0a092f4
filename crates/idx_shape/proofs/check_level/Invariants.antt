-- `check_level`: the rows of the pages from `parent` on, from what is known now, come to what all come to.
use Rattle.std.specs.Prelude.{◌-◌, Some}
use Rattle.idx_sound.specs.AuditTest.{max_pages}
use Rattle.idx_shape.specs.PassLaws.{PagesLeft}
use Rattle.idx_shape.specs.State.{progress_of}
use Rattle.idx_shape.proofs.check_level.Given as goal

abbrev pub invariant-loop : goal.invariant-loop
invariant-loop l =
    PagesLeft l.file.bytes.now l.file.key_length l.file.size l.attribute l.fn.first.0 l.parent.0 (max_pages - l.counter) (progress_of (Some l.fn.start))
    (progress_of (Some l.met))
