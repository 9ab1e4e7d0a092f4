-- A byte that differs decides, and the lengths do if none does.
use Rattle.std.proofs.Common.{sym, ◌∙◌, arith}
use Rattle.octets.specs.WordLaws.{byte-apart, byte-same, lengths_decide}
use Rattle.octets.proofs.Words.{cmp_then}
use Rattle.octets.proofs.compare_rest.Goals as goal

pub returns-then-a-i : goal.returns-then-a-i
returns-then-a-i c =
    c.cmp.ensures ∙ cmp_then _ _ ∙ sym (c.loop-i.invariant ∙ byte-apart _ _ c.loop-i.i (omega arith) (omega arith) c.if-a-i.true)

pub loop-i-preserved : goal.loop-i-preserved
loop-i-preserved c = c.loop-i.invariant ∙ byte-same _ _ c.loop-i.i (omega arith) (omega arith) c.if-a-i.false

pub returns : goal.returns
returns c = c.cmp-2.ensures ∙ cmp_then _ _ ∙ sym (c.loop-i.invariant ∙ lengths_decide _ _ c.loop-i.i (omega arith))
