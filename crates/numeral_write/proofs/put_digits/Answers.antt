-- A turn stores the digit before the others.
use Rattle.std.proofs.Common.{sym, arith, div-one}
use Rattle.std.proofs.Math.Nat.{sub_self}
use Rattle.octets.specs.StoreLaws.{put-none}
use Rattle.octets.specs.Text.{last_digits}
use Rattle.numeral.specs.WritingLaws.{put_digit, rest_digit}
use Rattle.numeral_write.proofs.put_digits.Goals as goal

pub loop-i-init : goal.loop-i-init
unfolding last_digits
loop-i-init c = rw sub_self (omega arith, sym (div-one _), sym (put-none _ _))

pub loop-i-preserved : goal.loop-i-preserved
loop-i-preserved c =
    let held = c.loop-i.invariant in
    (omega arith, rw held.1 (rest_digit _ _ _ (omega arith) (omega arith)), rw (held.2, held.1) (put_digit _ _ _ _ (omega arith) (omega arith)))
