-- By the case of the library's answer.
use Rattle.std.proofs.Common.{sym, arith}
use Rattle.dbf_calls.specs.AnswerLaws.{shape_small}
use Rattle.dbf_calls.proofs.table_shape.Goals as goal

pub overflow_cast-fields : goal.overflow_cast-fields
overflow_cast-fields c = let small = shape_small _ _ (sym c.in-Ok.ensures) in record { fits = omega arith }

pub overflow_cast-record_length : goal.overflow_cast-record_length
overflow_cast-record_length c = let small = shape_small _ _ (sym c.in-Ok.ensures) in record { fits = omega arith }
