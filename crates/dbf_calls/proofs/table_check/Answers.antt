-- A good table has no refusal, and a bad one has the library's.
use Rattle.std.proofs.Common.{sym, ◌∙◌}
use Rattle.dbf_table.specs.TableLaws.{good_check, refused_check}
use Rattle.dbf_calls.proofs.table_check.Goals as goal

pub returns-in-Ok : goal.returns-in-Ok
returns-in-Ok c = sym (good_check _ _ (sym c.in-Ok.ensures)).0

pub returns-in-Err : goal.returns-in-Err
returns-in-Err c = c.number.ensures ∙ (refused_check _ _ (sym c.in-Err.ensures)).0
