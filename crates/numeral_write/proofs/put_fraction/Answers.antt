-- The digits come first, then the point in front of them.
use Rattle.std.proofs.Common.{◌≤◌, sym, arith, div-one}
use Rattle.octets.specs.StoreLaws.{put-none, put_cons}
use Rattle.numeral.specs.Writing.{fraction_text}
use Rattle.numeral.specs.WritingLaws.{fraction-some, length-fraction}
use Rattle.numeral_write.proofs.put_fraction.Goals as goal

pub returns-then-places-eq0 : goal.returns-then-places-eq0
unfolding fraction_text
returns-then-places-eq0 c = rw c.if-places-eq0.true (sym (div-one _), sym (put-none _ _))

pub put_digits-whole-requires : goal.put_digits-whole-requires
put_digits-whole-requires c =
    let some : 1 ≤ c.args.places = omega arith in
    let long = length-fraction c.args.places c.args.n some in
    omega arith

pub bounds-text-at : goal.bounds-text-at
bounds-text-at c =
    let some : 1 ≤ c.args.places = omega arith in
    let long = length-fraction c.args.places c.args.n some in
    omega arith

pub returns : goal.returns
returns c =
    let some : 1 ≤ c.args.places = omega arith in
    (c.put_digits-whole.ensures.0, rw (c.put_digits-whole.ensures.1, fraction-some _ c.args.n some, put_cons))
