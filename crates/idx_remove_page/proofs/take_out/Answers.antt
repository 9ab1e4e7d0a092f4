-- What is gathered reads as the rule's entries.
use Rattle.std.proofs.Common.{arith, refl}
use Rattle.idx_leaf.specs.SearchLaws.{counted-some}
use Rattle.idx_entries.proofs.FitLaws.{one_less, without-gathered}
use Rattle.idx_remove_page.specs.StepLaws.{takes_none, takes-last, takes_one}
use Rattle.idx_remove_page.proofs.take_out.Goals as goal

pub returns-then-count-i : goal.returns-then-count-i
returns-then-count-i c = takes_none _ _ _ _ c.entry_count-count.ensures c.if-count-i.true

pub gather_without-requires : goal.gather_without-requires
gather_without-requires c =
    (counted-some c.requires c.entry_count-count.ensures (λ z. omega (arith, c.if-count-i.false, z)), omega (arith, c.if-count-i.false))

pub entries-requires : goal.entries-requires
entries-requires c =
    let l = counted-some c.requires c.entry_count-count.ensures (λ z. omega (arith, c.if-count-i.false, z)) in
    rw c.gather_without.ensures (without-gathered {i = c.args.i} l (omega (arith, c.if-count-i.false))).size

pub with_entries-requires : goal.with_entries-requires
with_entries-requires c =
    let l = counted-some c.requires c.entry_count-count.ensures (λ z. omega (arith, c.if-count-i.false, z)) in
    rw (c.entries.ensures.shape.0, c.entries.ensures.shape.1) (one_less l)

pub returns-then-fewer-eq0 : goal.returns-then-fewer-eq0
returns-then-fewer-eq0 c =
    let l = counted-some c.requires c.entry_count-count.ensures (λ z. omega (arith, c.if-count-i.false, z)) in
    let e = c.entries.ensures in
    takes-last _ _ _ _ c.entry_count-count.ensures (omega (arith, c.if-count-i.false)) refl
    (rw (e.shape.0, e.shape.1, e.bytes, c.gather_without.ensures, (without-gathered {i = c.args.i} l (omega (arith, c.if-count-i.false))).read) at c.with_entries.ensures)
    c.if-fewer-eq0.true

pub returns : goal.returns
returns c =
    let l = counted-some c.requires c.entry_count-count.ensures (λ z. omega (arith, c.if-count-i.false, z)) in
    let e = c.entries.ensures in
    takes_one _ _ _ _ c.entry_count-count.ensures (omega (arith, c.if-count-i.false)) refl
    (rw (e.shape.0, e.shape.1, e.bytes, c.gather_without.ensures, (without-gathered {i = c.args.i} l (omega (arith, c.if-count-i.false))).read) at c.with_entries.ensures)
    c.if-fewer-eq0.false
