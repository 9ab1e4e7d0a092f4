-- Rules: what the calls on a whole table hand to C.
use Rattle.std.specs.Prelude.{ℕ, Err, Ok}
use Rattle.dbf_table.specs.Table.{Checked}
use Rattle.handed.specs.Out.{Out, out}

-- ---- the table

-- records, fields and record_length
pub record Sizes : Type 0 where
  pub records : ℕ
  pub fields : ℕ
  pub record_length : ℕ

abbrev pub sizes : ℕ → ℕ → ℕ → Sizes
sizes records fields record_length = record { records = records; fields = fields; record_length = record_length }

-- the number of an answer: 0 for a good table, or the refusal's
abbrev pub checked_code : Checked → ℕ
checked_code (Ok s) = 0
checked_code (Err n) = n

abbrev pub shape_held : Checked → Sizes → Sizes
shape_held (Ok s) old = sizes s.records s.fields s.record_length
shape_held (Err n) old = old

unfoldable pub shape_out : Checked → Sizes → Out Sizes
shape_out answer old = out (checked_code answer) (shape_held answer old)
