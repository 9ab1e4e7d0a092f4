-- `offset` is the offset of field `j`, and the fields from it on decide.
use Rattle.std.proofs.Common.{◌≡◌, ◌-◌}
use Rattle.dbf_table.specs.Table.{field_offset}
use Rattle.dbf_append.specs.Append.{texts_refusal}
use Rattle.dbf_append.proofs.check_texts.Given as goal

abbrev pub invariant-loop-j : goal.invariant-loop-j
invariant-loop-j l = record {
  place : l.offset ≡ field_offset l.table l.j;
  decides : texts_refusal l.table l.bytes 0 l.fields ≡ texts_refusal l.table l.bytes l.j (l.fields - l.j);
}
