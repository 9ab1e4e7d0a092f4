-- In `ndx_page::Search::first_at_or_above` the entries passed are below the key, so that the rule goes on from entry `i`.
use Rattle.std.proofs.Common.{◌≡◌, ◌-◌}
use Rattle.idx_page.specs.Page.{first_at_or_above}
use Rattle.ndx_page.specs.Page.{key_at}
use Rattle.ndx_page.proofs.Search.first_at_or_above.Given as goal

abbrev pub invariant-loop-i : goal.invariant-loop-i
invariant-loop-i l =
    first_at_or_above (key_at l.self.index.bytes.now l.page.0) l.self.key.now l.count 0
    ≡ first_at_or_above (key_at l.self.index.bytes.now l.page.0) l.self.key.now (l.count - l.i) l.i
