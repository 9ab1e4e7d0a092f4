-- `gl_table_lay_out`: before turn j the room has the first j entries, and each of them has a name of 11 bytes. Assumes nothing.
use Rattle.std.proofs.Common.{◌≡◌, take}
use Rattle.dbf_create.proofs.EmptyLaws.{Named}
use Rattle.dbf_create.proofs.CopyLaws.{copied}
use Rattle.gatherloom.proofs.gl_table_lay_out.Given as goal

abbrev pub invariant-loop-j : goal.invariant-loop-j
invariant-loop-j l = record {
  named : Named (take l.j l.entries);
  room : l.room ≡ copied l.entries l.j;
}
