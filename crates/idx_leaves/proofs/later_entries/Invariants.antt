-- `later_entries`: the entries passed are good, so that those from the loop's entry on, which begins at `at`, decide after the entry at `prior`.
use Rattle.idx_leaves.specs.LeafLaws.{LeafLoop}
use Rattle.idx_leaves.proofs.later_entries.Given as goal

abbrev pub invariant-loop : goal.invariant-loop
invariant-loop l = LeafLoop l.file.bytes.now l.file.key_length l.fn.page.0 l.count l.fn.first l.fn.last l.counter l.at l.prior
