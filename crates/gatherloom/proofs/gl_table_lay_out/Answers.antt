-- `gl_table_lay_out`: each turn copies one entry more, and the entries copied are laid out as the lent list is. Assumes nothing.
use Rattle.std.proofs.Common.{ℕ, ◌+◌, ◌≡◌, ◌<◌, ◌∙◌, List, length, take, get_or, arith}
use Rattle.std.proofs.lemmas.List.{get_or_default}
use Rattle.dbf_table.specs.Table.{max_fields}
use Rattle.dbf_field.specs.Field.{no_entry}
use Rattle.dbf_field.specs.declared.FieldEntry.{FieldEntry}
use Rattle.dbf_create.specs.Laying.{with_field, listed_count}
use Rattle.dbf_create.proofs.EmptyLaws.{Named}
use Rattle.dbf_create.proofs.CopyLaws.{copied, copied_none, copied_more, count-within, named_more, lay_listed}
use Rattle.gatherloom.proofs.gl_table_lay_out.Goals as goal

-- a turn's entry is one of the list, and one of the fields that a table has at most
below_length : (n count j : ℕ) → count ≡ listed_count n → j < count → j < n
below_length n count j e l = omega (arith, e, l, (count-within n).0)

below_most : (n count j : ℕ) → count ≡ listed_count n → j < count → j < max_fields
below_most n count j e l = omega (arith, e, l, (count-within n).1)

-- what a turn leaves, whatever the entry past the list is
named_next : (es : List FieldEntry) (j : ℕ) (past : FieldEntry) → j < length es → Named (take j es) → length (get_or es j past).name ≡ 11
    → Named (take (j + 1) es)
named_next es j past l named eleven = named_more es j l named (rw (get_or_default es j past no_entry l) at eleven)

room_next : (es : List FieldEntry) (room after : List ℕ) (j : ℕ) (past : FieldEntry) → j < length es → room ≡ copied es j
    → after ≡ with_field room j (get_or es j past) → after ≡ copied es (j + 1)
room_next es room after j past l before e = e ∙ rw (before, get_or_default es j past no_entry l) (copied_more es j)

pub loop-j-init : goal.loop-j-init
loop-j-init c = record { named = tt; room = c.no_fields-room.ensures ∙ copied_none c.args.entries.now }

pub offset_bounds-entries-j : goal.offset_bounds-entries-j
offset_bounds-entries-j c =
    let few : c.loop-j.j < max_fields = below_most _ _ _ c.listed_count-count.ensures c.loop-j-test.true in
    record { fits = omega (arith, few) }

pub bounds-entries-j : goal.bounds-entries-j
bounds-entries-j c = below_length _ _ _ c.listed_count-count.ensures c.loop-j-test.true

pub write_field-requires : goal.write_field-requires
write_field-requires c = (below_most _ _ _ c.listed_count-count.ensures c.loop-j-test.true, c.loop-j-test.array_long)

pub loop-j-preserved : goal.loop-j-preserved
loop-j-preserved c =
    let inside : c.loop-j.j < length c.args.entries.now = below_length _ _ _ c.listed_count-count.ensures c.loop-j-test.true in
    record {
      named = named_next c.args.entries.now c.loop-j.j _ inside c.loop-j.invariant.named c.write_field.ensures.named;
      room = room_next c.args.entries.now c.loop-j.room c.write_field.new.room c.loop-j.j _ inside c.loop-j.invariant.room c.write_field.ensures.written;
    }

pub returns : goal.returns
returns c =
    let copied : c.loop-j.j ≡ c.listed_count-count.result = omega (arith, c.loop-j.auto.j-end) in
    rw c.change_code.ensures
    (lay_listed c.args.buffer.now c.args.entries.now c.args.year c.args.month c.args.day c.loop-j.j (copied ∙ c.listed_count-count.ensures)
    c.loop-j.invariant.named ∙ rw c.loop-j.invariant.room at c.lay_out.ensures)
