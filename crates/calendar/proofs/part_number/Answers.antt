-- Four digits at most say a year's number at most.
use Rattle.std.proofs.Common.{◌≡◌, Some, arith}
use Rattle.octets.specs.Text.{digits_of}
use Rattle.calendar.specs.DateLaws.{part_small}
use Rattle.calendar.proofs.part_number.Goals as goal

pub overflow_cast-result : goal.overflow_cast-result
overflow_cast-result c =
    let read : digits_of c.args.digits.now ≡ Some c.in_ok-number.number = grind arith in
    let small = part_small _ _ read c.requires in
    record { fits = omega arith }

pub returns-clause-small : goal.returns-clause-small
returns-clause-small c =
    let read : digits_of c.args.digits.now ≡ Some c.in_ok-number.number = grind arith in
    part_small _ _ read c.requires
