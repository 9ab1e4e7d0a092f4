-- The chain over the fields meets the rule.
use Rattle.std.proofs.Common.{rules}
use borrow.Author.Tests.{tests}
use Rattle.std.proofs.lemmas.Iterator.{YieldsList-from_range}
use Rattle.std.proofs.lemmas.Iterator.Search.{any_from_yields_List}
use Rattle.dbf_table.specs.Table.{field_count, is_memo, has_memo}
use Rattle.dbf_table.specs.RangeLaws.{any_listed}
use Rattle.dbf_fields.proofs.has_memo.Goals as goal

pub returns : goal.returns
unfolding has_memo is_memo
returns c =
    let table = c.args.table.now in
    rw (← any_listed (is_memo table) (field_count table))
    (any_from_yields_List (is_memo table) _ _ _ c.any.ensures.ran
    (YieldsList-from_range 0 (field_count table) (field_count table) (search rules) (search rules)) (λ x b q k. search (rules, tests)))
