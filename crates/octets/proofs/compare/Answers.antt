-- The first word that differs decides, since a slice holds bytes, and the bytes behind all words do if none differs.
use Rattle.std.proofs.Common.{sym, ◌∙◌, arith, ◌≡◌, ◌+◌, ◌*◌, ◌/◌}
use Rattle.octets.specs.WordLaws.{number_decides, then_same, then_apart}
use Rattle.octets.proofs.Words.{cmp_then}
use Rattle.octets.proofs.compare.Goals as goal

pub returns-then-first-second : goal.returns-then-first-second
returns-then-first-second c =
    let differ = rw (c.load_be64-first.ensures, c.load_be64-second.ensures) at c.if-first-second.true in
    let word = number_decides _ _ (λ j. (c.type_inv.a j).fits) (λ j. (c.type_inv.b j).fits) (8 * c.loop-i.i) 8 (omega arith) (omega arith) in
    rw (c.cmp.ensures, c.load_be64-first.ensures, c.load_be64-second.ensures)
    (cmp_then _ _ ∙ sym (c.loop-i.invariant ∙ word ∙ then_apart _ _ _ differ))

pub loop-i-preserved : goal.loop-i-preserved
loop-i-preserved c =
    let next : 8 * (c.loop-i.i + 1) ≡ 8 * c.loop-i.i + 8 = omega arith in
    let same = rw (c.load_be64-first.ensures, c.load_be64-second.ensures) at c.if-first-second.false in
    let word = number_decides _ _ (λ j. (c.type_inv.a j).fits) (λ j. (c.type_inv.b j).fits) (8 * c.loop-i.i) 8 (omega arith) (omega arith) in
    rw next (c.loop-i.invariant ∙ word ∙ then_same _ _ _ same)

pub returns : goal.returns
returns c =
    let words : c.min-n.result / 8 * 8 ≡ 8 * c.loop-i.i = omega arith in
    c.compare_rest.ensures ∙ rw words (sym c.loop-i.invariant)
