-- `take_all`: the leaves from the first on, by the header's numbers.
use Rattle.std.proofs.Common.{sym, ◌∙◌}
use Rattle.idx_records.specs.CallLaws.{leaves-from}
use Rattle.idx_records.proofs.take_all.Goals as goal

pub take_leaves-requires-clause-length : goal.take_leaves-requires-clause-length
take_leaves-requires-clause-length c = c.requires.length ∙ sym c.new-file.ensures.key_length

pub returns-clause-taken : goal.returns-clause-taken
returns-clause-taken c =
    let file = c.new-file.ensures in
    leaves-from _ _ _ _ _ _ _ _ _ file.bytes c.requires.length file.key_length file.size c.first_leaf.ensures c.take_leaves.ensures.taken
