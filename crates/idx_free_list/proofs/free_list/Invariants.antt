-- `free_list`: the pages passed were free, so that those from `page` on decide.
use Rattle.std.proofs.Common.{◌-◌}
use Rattle.idx_free_list.specs.FreeLaws.{FreeLeft}
use Rattle.idx_free_list.proofs.free_list.Given as goal

abbrev pub invariant-loop : goal.invariant-loop
invariant-loop l = FreeLeft l.file.bytes.now l.file.size l.count l.fn.first.0 l.page.0 (l.count - l.counter)
