-- Laws: what the calls' proofs cite of the answers; an out-parameter keeps what it held if the answer is not 0. Assumes nothing.
use Rattle.std.specs.Prelude.{ℕ, ◌<◌, ◌^◌, ◌≡◌, refl, List, Err, Ok}
use Rattle.std.proofs.Common.{arith}
use Rattle.dbf_table.specs.Table.{check_table}
use Rattle.dbf_table.specs.TableLaws.{layout, good_shape}
use Rattle.dbf_table.specs.declared.Shape.{Shape}
use Rattle.dbf_table.specs.Table.{Checked}
use Rattle.dbf_calls.specs.Answers.{Sizes, shape_out}

-- a good table's numbers are numbers of 32 bits
pub record Small (s : Shape) : Type 0 where
  pub fields : s.fields < 2 ^ 32
  pub length : s.record_length < 2 ^ 32

pub shape_small : (b : List ℕ) (s : Shape) → check_table b ≡ Ok s → Small s
shape_small b s e =
    let shape = good_shape b s e in
    let table = layout b shape.table in
    record { fields = omega (arith, shape.fields, table.header.few); length = omega (arith, shape.length, table.small) }

pub shape_kept : (answer : Checked) (old : Sizes) → ((shape_out answer old).answer ≡ 0 → ⊥) → (shape_out answer old).held ≡ old
unfolding shape_out
shape_kept (Ok s) old other = absurd (other refl)
shape_kept (Err n) old other = refl
