-- The two stores are the rule's, in the rule's order.
use Rattle.idx_supply.specs.SupplyLaws.{supply-put}
use Rattle.idx_supply.proofs.set_supply.Goals as goal

pub returns : goal.returns
returns c = supply-put _ _ c.set_free.ensures c.set_file_end.ensures
