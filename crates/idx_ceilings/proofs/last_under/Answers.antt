-- `last_under`: each turn goes down a level.
use Rattle.std.proofs.Common.{arith}
use Rattle.idx_sound.specs.AuditTest.{last_child}
use Rattle.idx_ceilings.specs.CeilingLaws.{down-end, down-on}
use Rattle.idx_ceilings.proofs.last_under.Goals as goal

pub loop-preserved : goal.loop-preserved
loop-preserved c =
    let f = c.args.file.now in
    let more = c.loop-test.true in
    down-on (last_child f.bytes.now f.key_length f.size) _ _ _ _ c.loop.invariant _ _ (omega arith) c.last_child-lower.ensures

pub returns : goal.returns
returns c =
    let f = c.args.file.now in
    down-end (last_child f.bytes.now f.key_length f.size) _ _ _ _ c.loop.invariant (omega (arith, c.loop-test.false))
