-- `gl_fields`: before turn j the entries are those of the first j fields, and the last of them is at hand. Assumes nothing.
use Rattle.std.proofs.Common.{◌≡◌}
use Rattle.dbf_calls.specs.Lent.{listed}
use Rattle.dbf_calls.specs.LentLaws.{last_entry}
use Rattle.gatherloom.proofs.gl_fields.Given as goal

abbrev pub invariant-loop-j : goal.invariant-loop-j
invariant-loop-j l = record {
  last : l.last ≡ last_entry l.table l.j;
  entries : l.entries ≡ listed l.table l.j l.initial.entries;
}
