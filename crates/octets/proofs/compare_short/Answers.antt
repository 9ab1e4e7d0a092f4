-- A byte that differs decides over those behind it, and the lengths do if none differs.
use Rattle.std.proofs.Common.{sym, ◌∙◌, arith, ◌≡◌, ◌+◌, ◌-◌}
use Rattle.octets.specs.WordLaws.{byte-apart, byte-same, lengths_decide}
use Rattle.octets.proofs.Words.{cmp_then}
use Rattle.octets.proofs.compare_short.Goals as goal

pub loop-i-init : goal.loop-i-init
loop-i-init c = lengths_decide _ _ _ c.requires

pub loop-i-preserved-then-a-i : goal.loop-i-preserved-then-a-i
loop-i-preserved-then-a-i c = rw (c.from-x.ensures, c.from-y.ensures) (byte-apart _ _ (c.loop-i.i - 1) (omega arith) (omega arith) c.if-a-i.true)

pub loop-i-preserved : goal.loop-i-preserved
loop-i-preserved c =
    let one : c.loop-i.i - 1 + 1 ≡ c.loop-i.i = omega arith in
    byte-same _ _ (c.loop-i.i - 1) (omega arith) (omega arith) c.if-a-i.false ∙ rw one c.loop-i.invariant

pub returns : goal.returns
returns c =
    let end : c.loop-i.i ≡ 0 = omega arith in
    c.cmp.ensures ∙ cmp_then _ _ ∙ sym (rw end at c.loop-i.invariant)
