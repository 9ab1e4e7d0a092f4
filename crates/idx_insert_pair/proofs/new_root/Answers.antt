-- The root's page, then the header's root offset and supply; what is gathered reads as the rule's entries.
use Rattle.std.proofs.Common.{◌∙◌, sym, refl, arith}
use Rattle.idx_page.specs.HeaderLaws.{is-page}
use Rattle.idx_layout.specs.WriteLaws.{capacity-least}
use Rattle.idx_entries.proofs.FitLaws.{root-gathered}
use Rattle.idx_insert_page.specs.StepLaws.{root_none, root-new}
use Rattle.idx_insert_pair.proofs.new_root.Goals as goal

pub returns-then-not-is_page : goal.returns-then-not-is_page
returns-then-not-is_page c =
    root_none c.args.index.now c.args.key.now c.args.old.0 c.args.new.0 c.args.supply c.take_page-taken.ensures (sym c.is_page.ensures ∙ c.if-not-is_page.true)

pub entries-requires : goal.entries-requires
entries-requires c = rw c.gather_root.ensures (root-gathered c.args.index.now c.args.key.now c.args.old.0 c.args.new.0).size

pub new_page-requires : goal.new_page-requires
new_page-requires c =
    let m = capacity-least _ c.requires.0 in
    rw (c.entries.ensures.shape.0, c.entries.ensures.shape.1)
    (record { key = c.requires.0; count = omega arith; page = (is-page _ _ (sym c.is_page.ensures ∙ c.if-not-is_page.false)).high })

pub set_root-requires : goal.set_root-requires
set_root-requires c = let g = is-page _ _ (sym c.is_page.ensures ∙ c.if-not-is_page.false) in omega (arith, g.high)

pub set_supply-requires : goal.set_supply-requires
set_supply-requires c = let g = is-page _ _ (sym c.is_page.ensures ∙ c.if-not-is_page.false) in omega (arith, g.high)

pub returns : goal.returns
returns c =
    let e = c.entries.ensures in
    root-new c.args.index.now c.args.key.now c.args.old.0 c.args.new.0 c.args.supply c.take_page-taken.ensures
    (sym c.is_page.ensures ∙ c.if-not-is_page.false) refl
    (rw (e.shape.0, e.shape.1, e.bytes, c.gather_root.ensures, (root-gathered c.args.index.now c.args.key.now c.args.old.0 c.args.new.0).read)
    at c.new_page.ensures)
    c.set_root.ensures c.set_supply.ensures
