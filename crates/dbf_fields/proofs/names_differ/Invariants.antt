-- Until a duplicate leaves both loops: some field has the name of one before it exactly if one below `later` has, and no field before `later` that was passed
-- has its name.
use Rattle.std.proofs.Common.{◌≡◌, true, false}
use Rattle.dbf_table.specs.Range.{any_below}
use Rattle.dbf_table.specs.Table.{field_count, same_name, name_taken}
use Rattle.dbf_fields.proofs.names_differ.Given as goal

abbrev pub invariant-fields : goal.invariant-fields
invariant-fields l = (l.differ ≡ true) × (any_below (name_taken l.table) (field_count l.table) ≡ any_below (name_taken l.table) l.later)

abbrev pub invariant-loop-earlier : goal.invariant-loop-earlier
invariant-loop-earlier l = (l.differ ≡ true) × (any_below (same_name l.table l.later) l.earlier ≡ false)
