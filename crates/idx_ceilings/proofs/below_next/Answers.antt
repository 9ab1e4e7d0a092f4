-- `below_next`: the first leaf key under the next child, if there is one, decides by the order of the key to it.
use Rattle.idx_ceilings.specs.CeilingLaws.{next-end, next-none, next-less, next-equal, next-greater}
use Rattle.idx_ceilings.proofs.below_next.Goals as goal

pub returns-then-count-i : goal.returns-then-count-i
returns-then-count-i c =
    let a = c.args in
    next-end a.file.now.bytes.now a.file.now.key_length a.file.now.size a.under a.page.0 a.count a.i a.key c.if-count-i.true

pub returns-in-None : goal.returns-in-None
returns-in-None c = next-none _ _ _ _ _ _ _ _ _ _ c.if-count-i.false c.child-child.ensures c.first_under.ensures c.in-None.ensures.key

pub returns-in-Less : goal.returns-in-Less
returns-in-Less c =
    next-less _ _ _ _ _ _ _ _ _ _ c.if-count-i.false c.child-child.ensures c.first_under.ensures _ c.in-Some.ensures.key c.in-Less.ensures

pub returns-in-Equal : goal.returns-in-Equal
returns-in-Equal c =
    next-equal _ _ _ _ _ _ _ _ _ _ c.if-count-i.false c.child-child.ensures c.first_under.ensures _ c.in-Some.ensures.key c.in-Equal.ensures
    c.several.ensures

pub returns-in-Greater : goal.returns-in-Greater
returns-in-Greater c =
    next-greater _ _ _ _ _ _ _ _ _ _ c.if-count-i.false c.child-child.ensures c.first_under.ensures _ c.in-Some.ensures.key c.in-Greater.ensures
