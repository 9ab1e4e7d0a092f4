-- Steps: the first pass's own values, as its test has them. No public contract cites these: a reader need not believe them.
use Rattle.std.specs.Prelude.{ℕ, true, cond, Some, None}
use Rattle.std.specs.declared.option.Option.{Option}
use Rattle.idx_page.specs.Header.{no_page}
use Rattle.idx_page.specs.declared.PageOffset.{PageOffset}
use Rattle.idx_sound.specs.AuditTest as rule
use Rattle.idx_shape.specs.declared.Progress.{Progress}
use Rattle.idx_shape.specs.declared.Level.{Level}

-- the answer of a pass over pages, as the test has it: refused, or what is known of the pages met
abbrev pub progress_of : Option Progress → rule.Progress
progress_of None = rule.refused
progress_of (Some s) = record { good = true; last = s.last.0; next = s.next.0; left = s.left }

-- a good level, as the test has it
abbrev pub level_of : Level → rule.Level
level_of v = record { good = true; leaf = v.leaf; first = v.first.0; left = v.left }

-- what the test says of a level, if it is good
abbrev pub known : rule.Level → Option Level
known v = cond v.good (Some (record { leaf = v.leaf; first = record { 0 = v.first }; left = v.left })) None

-- the start of a level
abbrev pub start_at : PageOffset → ℕ → Progress
start_at first left = record { last = record { 0 = no_page }; next = first; left = left }
