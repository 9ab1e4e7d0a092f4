-- The chain over a name's bytes meets the rule.
use Rattle.std.proofs.Common.{rules}
use borrow.Author.Tests.{tests}
use Rattle.std.proofs.lemmas.Iterator.{YieldsList-from_range}
use Rattle.std.proofs.lemmas.Iterator.Search.{all_from_yields_List}
use Rattle.dbf_table.specs.RangeLaws.{all_listed}
use Rattle.inspect_argument.specs.Names.{name_byte, has_name}
use Rattle.inspect_argument.proofs.names.has_name.Goals as goal

pub returns : goal.returns
unfolding has_name
returns c =
    let test = name_byte c.args.table.now c.args.name.now c.args.j in
    rw (← all_listed test (11))
    (all_from_yields_List test _ _ _ c.all.ensures.ran (YieldsList-from_range 0 (11) (11) (search rules) (search rules)) (λ x b q k. search (rules, tests)))
