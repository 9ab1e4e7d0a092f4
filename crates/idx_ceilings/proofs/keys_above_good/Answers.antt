-- `keys_above_good`: the test of the whole pass, by the header's numbers.
use Rattle.std.proofs.Common.{◌∙◌}
use Rattle.idx_ceilings.specs.KeyLaws.{keys-answer}
use Rattle.idx_ceilings.proofs.keys_above_good.Goals as goal

pub returns : goal.returns
returns c =
    let file = c.new-file.ensures in
    c.is_some.ensures
    ∙ keys-answer _ _ _ _ _ _ _ file.bytes file.key_length file.size c.root-root.ensures c.height_of.ensures c.upper_levels.ensures
