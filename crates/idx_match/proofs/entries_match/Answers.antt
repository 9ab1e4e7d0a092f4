-- `entries_match`: the leaves from the first on, by the header's numbers.
use Rattle.std.proofs.Common.{sym, ◌∙◌}
use Rattle.idx_match.proofs.CallLaws.{leaves-from}
use Rattle.idx_match.proofs.entries_match.Goals as goal

pub leaves_good-requires-clause-length : goal.leaves_good-requires-clause-length
leaves_good-requires-clause-length c = c.requires.length ∙ sym c.new-file.ensures.key_length

pub returns : goal.returns
returns c =
    let file = c.new-file.ensures in
    leaves-from _ _ _ c.args.column _ _ _ _ file.bytes c.requires.length file.key_length file.size c.first_leaf.ensures c.leaves_good.ensures
