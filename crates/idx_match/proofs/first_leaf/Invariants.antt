-- `first_leaf`: the first leaf under `page`, with the levels that are left, is the root's.
use Rattle.std.specs.Prelude.{◌-◌}
use Rattle.idx_page.specs.Header.{max_levels, root_offset}
use Rattle.idx_match.specs.StepLaws.{FirstLeft}
use Rattle.idx_match.proofs.first_leaf.Given as goal

abbrev pub invariant-loop : goal.invariant-loop
invariant-loop l =
    FirstLeft l.file.bytes.now l.file.key_length l.file.size (root_offset l.file.bytes.now) l.page.0 (max_levels - 1 - l.counter)
