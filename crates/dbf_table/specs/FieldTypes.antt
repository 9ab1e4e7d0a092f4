-- Rules: the types of fields and their letters, "field types C, N, D, L and M".
use Rattle.std.specs.Prelude.{ℕ, cond, eqb, Option, Some, None}
use Rattle.dbf_table.specs.Table.{type_c, type_n, type_d, type_l, type_m}
use Rattle.dbf_table.specs.declared.FieldType.{FieldType}
use Rattle.dbf_table.specs.declared.FieldType.TheVariants as field

-- the letter that a descriptor has for a type
abbrev pub letter_of : FieldType → ℕ
letter_of field.Text = type_c
letter_of field.Number = type_n
letter_of field.Date = type_d
letter_of field.Logical = type_l
letter_of field.Memo = type_m

-- the type that a letter stands for
abbrev pub type_of : ℕ → Option FieldType
type_of letter =
    cond (eqb letter type_c) (Some field.Text)
    (cond (eqb letter type_n) (Some field.Number)
    (cond (eqb letter type_d) (Some field.Date)
    (cond (eqb letter type_l) (Some field.Logical)
    (cond (eqb letter type_m) (Some field.Memo) None))))
