-- The chain over a name's bytes meets the rule.
use Rattle.std.proofs.Common.{rules}
use borrow.Author.Tests.{tests}
use Rattle.std.proofs.lemmas.Iterator.{YieldsList-from_range}
use Rattle.std.proofs.lemmas.Iterator.Search.{all_from_yields_List}
use Rattle.dbf_table.specs.Table.{name_goes_on}
use Rattle.dbf_table.specs.RangeLaws.{all_listed}
use Rattle.dbf_fields.proofs.name_goes_on.Goals as goal

pub returns : goal.returns
unfolding name_goes_on
returns c =
    let table = c.args.table.now in
    rw (← all_listed (name_goes_on table c.args.at) (10))
    (all_from_yields_List (name_goes_on table c.args.at) _ _ _ c.all.ensures.ran
    (YieldsList-from_range 0 (10) (10) (search rules) (search rules)) (λ x b q k. search (rules, tests)))
