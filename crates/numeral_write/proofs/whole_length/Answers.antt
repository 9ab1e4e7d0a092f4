-- The powers of ten around n say how many digits it has.
use Rattle.std.proofs.Common.{◌≡◌, ◌+◌, ◌≤◌, length, arith}
use Rattle.octets.specs.Text.{decimal}
use Rattle.octets.specs.DigitLaws.{decimal-fits}
use Rattle.numeral.specs.Format.{max_digits}
use Rattle.numeral.specs.DigitLaws.{whole_count, decimal_count}
use Rattle.numeral_write.proofs.whole_length.Goals as goal

pub returns : goal.returns
returns c =
    let n = c.args.n in
    let some = c.max.ensures in
    let least = c.ilog10.ensures.power_le in
    let most = c.ilog10.ensures.next_power_gt in
    let count : length (decimal n) ≡ c.ilog10.result + 1 = decimal_count n c.ilog10.result (omega arith) (omega arith) in
    let few : length (decimal n) ≤ max_digits = (decimal-fits n max_digits (omega arith)).1 c.requires in
    let whole = whole_count n c.args.places in
    (omega arith, omega arith)
