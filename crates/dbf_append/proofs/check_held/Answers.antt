-- What `check_table` ensures of the front of the buffer.
use Rattle.std.proofs.Common.{◌∙◌, sym, arith}
use Rattle.dbf_append.specs.CheckLaws.{held-long, held-checked}
use Rattle.dbf_append.proofs.check_held.Goals as goal

pub returns-then-buffer-table_len : goal.returns-then-buffer-table_len
returns-then-buffer-table_len c = sym (held-long _ _ c.if-buffer-table_len.true)

pub returns : goal.returns
returns c = c.check_table.ensures ∙ sym (held-checked _ _ (omega arith))
