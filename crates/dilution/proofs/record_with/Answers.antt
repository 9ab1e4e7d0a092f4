-- The record of lookup's answer, 0 for none.
use Rattle.std.proofs.Common.{ap}
use Rattle.idx_lookup.specs.Answer.{Answer}
use Rattle.idx_lookup.specs.Lookup.{answer_record}
use Rattle.dilution.specs.Dilution.{record_with}
use Rattle.dilution.proofs.record_with.Goals as goal

pub returns-in-Err : goal.returns-in-Err
unfolding record_with
returns-in-Err c = ap (λ (a : Answer). answer_record a 0) c.in-Err.ensures

pub returns-in-Some : goal.returns-in-Some
unfolding record_with
returns-in-Some c =
    let said = ap (λ (a : Answer). answer_record a 0) c.in-Ok.ensures in
    rw c.in-Some.is at said

pub returns-in-None : goal.returns-in-None
unfolding record_with
returns-in-None c =
    let said = ap (λ (a : Answer). answer_record a 0) c.in-Ok.ensures in
    rw c.in-None.is at said
