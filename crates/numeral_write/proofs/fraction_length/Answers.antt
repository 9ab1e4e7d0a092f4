-- Behind the point stand as many digits as there are decimals.
use Rattle.std.proofs.Common.{◌≤◌, arith, sym}
use Rattle.numeral.specs.WritingLaws.{length-fraction}
use Rattle.numeral_write.proofs.fraction_length.Goals as goal

pub returns-else-places-eq0 : goal.returns-else-places-eq0
returns-else-places-eq0 c = let some : 1 ≤ c.args.places = omega arith in ((λ n. sym (length-fraction _ n some)), omega arith)
