-- Each turn passes one more pair; at the break, the pair found is a name taken. The first field has none before it, so it takes no turn.
use Rattle.std.proofs.Common.{◌≡◌, ◌+◌, ◌-◌, false, refl, ap, sym, ◌∙◌, not, arith}
use Rattle.dbf_table.specs.Range.{any_below}
use Rattle.dbf_table.specs.NameLaws.{first-name-free}
use Rattle.dbf_table.specs.Table.{field_count, same_name, name_taken, names_differ}
use Rattle.dbf_table.specs.RangeLaws.{any_none, any_more, any_fewer, any_stop}
use Rattle.dbf_fields.proofs.names_differ.Goals as goal

pub fields-init : goal.fields-init
fields-init c = (refl, sym (ap (any_below (name_taken c.args.table.now)) c.field_count-later.ensures.0))

pub loop-earlier-init : goal.loop-earlier-init
loop-earlier-init c = (c.fields.invariant.0, any_none (same_name c.args.table.now (c.fields.later - 1)))

pub loop-earlier-preserved : goal.loop-earlier-preserved
loop-earlier-preserved c = (
  c.loop-earlier.invariant.0,
  any_more (same_name c.args.table.now (c.fields.later - 1)) c.loop-earlier.earlier c.loop-earlier.invariant.1
      (sym c.same_name.ensures ∙ c.if-same_name.false),
)

pub fields-preserved : goal.fields-preserved
unfolding name_taken
fields-preserved c =
    let table = c.args.table.now in
    let later = c.fields.later in
    let end : c.loop-earlier.earlier ≡ later - 1 = omega arith in
    let one : later ≡ later - 1 + 1 = omega arith in
    let free : name_taken table (later - 1) ≡ false = rw end at c.loop-earlier.invariant.1 in
    (c.loop-earlier.invariant.0, c.fields.invariant.1 ∙ ap (any_below (name_taken table)) one ∙ any_fewer (name_taken table) (later - 1) free)

pub returns-after-fields : goal.returns-after-fields
unfolding names_differ
returns-after-fields c =
    let table = c.args.table.now in
    c.fields.invariant.0 ∙ sym (ap not (c.fields.invariant.1 ∙ first-name-free table c.fields.later (omega arith)))

pub returns-then-same_name : goal.returns-then-same_name
unfolding names_differ name_taken
returns-then-same_name c =
    let table = c.args.table.now in
    let last = c.fields.later - 1 in
    let taken = any_stop (same_name table last) c.loop-earlier.earlier last (omega arith) (sym c.same_name.ensures ∙ c.if-same_name.true) in
    sym (ap not (any_stop (name_taken table) last (field_count table) (omega arith) taken))
