-- The chain over the fields meets the rule.
use Rattle.std.proofs.Common.{rules}
use borrow.Author.Tests.{tests}
use Rattle.std.proofs.lemmas.Iterator.{YieldsList-from_range}
use Rattle.std.proofs.lemmas.Iterator.Search.{all_from_yields_List}
use Rattle.dbf_table.specs.Table.{field_count, descriptor_good, fields_good}
use Rattle.dbf_table.specs.RangeLaws.{all_listed}
use Rattle.dbf_fields.proofs.fields_good.Goals as goal

pub returns : goal.returns
unfolding fields_good
returns c =
    let table = c.args.table.now in
    rw (← all_listed (descriptor_good table) (field_count table))
    (all_from_yields_List (descriptor_good table) _ _ _ c.all.ensures.ran
    (YieldsList-from_range 0 (field_count table) (field_count table) (search rules) (search rules)) (λ x b q k. search (rules, tests)))
