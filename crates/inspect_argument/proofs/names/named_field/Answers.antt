-- `named_field`: the first field that has the name. A good table has at most 128 fields.
use Rattle.std.proofs.Common.{◌≡◌, sym, ◌∙◌, add-one, arith}
use Rattle.dbf_table.specs.Table.{field_count}
use Rattle.dbf_table.specs.TableLaws.{layout}
use Rattle.dbf_table.specs.RecordLaws.{descriptor-inside}
use Rattle.inspect_argument.specs.Names.{named_field}
use Rattle.inspect_argument.specs.NameLaws.{named_none, named_more, named_stop}
use Rattle.inspect_argument.proofs.names.named_field.Goals as goal

pub loop-j-init : goal.loop-j-init
loop-j-init c = named_none _ _

pub has_name-requires : goal.has_name-requires
has_name-requires c = descriptor-inside _ (layout _ c.requires.0) _ (omega (arith, c.requires.1))

pub overflow_cast-result : goal.overflow_cast-result
overflow_cast-result c = omega (arith, c.requires.1, (layout _ c.requires.0).header.few)

pub overflow_add-result : goal.overflow_add-result
overflow_add-result c = omega (arith, c.requires.1, (layout _ c.requires.0).header.few)

pub returns-then-has_name-clause-some : goal.returns-then-has_name-clause-some
unfolding named_field
returns-then-has_name-clause-some c =
    let has = sym c.has_name.ensures ∙ c.if-has_name.true in
    (omega arith, add-one _ ∙ sym (named_stop _ _ c.loop-j.j _ (omega (arith, c.requires.1)) c.loop-j.invariant has))

pub loop-j-preserved : goal.loop-j-preserved
loop-j-preserved c = named_more _ _ c.loop-j.j c.loop-j.invariant (sym c.has_name.ensures ∙ c.if-has_name.false)

pub returns-clause-none : goal.returns-clause-none
unfolding named_field
returns-clause-none c =
    let end : c.loop-j.j ≡ field_count c.args.table.now = omega (arith, c.requires.1) in
    λ _. rw end at c.loop-j.invariant
