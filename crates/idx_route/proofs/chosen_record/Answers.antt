-- The pair passes an entry as long as the first leaf pair under the next one is at or below it.
use Rattle.std.proofs.Common.{sym, ap, ◌∙◌, ◌+◌, ◌-◌, ◌≡◌, arith}
use Rattle.tree.specs.Position.{Passes, position}
use Rattle.idx_page.specs.Header.{max_levels}
use Rattle.idx_page.specs.PageLaws.{within-entry}
use Rattle.idx_page.specs.Reading.{Item}
use Rattle.idx_leaf.specs.Leaf.{stored}
use Rattle.idx_leaf.specs.EntryLaws.{listed, listed-within}
use Rattle.idx_route.specs.Route.{first_up_to}
use Rattle.idx_route.specs.RouteLaws.{position-end, position_stop, position-on}
use Rattle.idx_route.proofs.chosen_record.Goals as goal

pub first_up_to-requires : goal.first_up_to-requires
first_up_to-requires c = within-entry (c.loop-i.i + 1) (listed-within c.requires.0) (omega arith)

pub returns-then-not-first_up_to : goal.returns-then-not-first_up_to
returns-then-not-first_up_to c =
    let args = c.args in
    let passes : Passes Item = λ x y. first_up_to max_levels args.index.now (stored args.key.now args.number.0) y in
    position_stop _ _ _ passes _ c.loop-i.i c.loop-i.invariant (omega arith) (sym c.first_up_to.ensures ∙ c.if-not-first_up_to.true) ∙ ap (position passes) (sym (listed c.requires.0))

pub loop-i-preserved : goal.loop-i-preserved
loop-i-preserved c =
    let args = c.args in
    let passes : Passes Item = λ x y. first_up_to max_levels args.index.now (stored args.key.now args.number.0) y in
    position-on _ _ _ passes _ c.loop-i.i c.loop-i.invariant (omega arith) (sym c.first_up_to.ensures ∙ c.if-not-first_up_to.false)

pub returns : goal.returns
returns c =
    let args = c.args in
    let passes : Passes Item = λ x y. first_up_to max_levels args.index.now (stored args.key.now args.number.0) y in
    let end : args.count - 1 ≡ c.loop-i.i = omega arith in
    end ∙ position-end _ _ _ passes _ c.loop-i.i c.loop-i.invariant (omega arith) ∙ ap (position passes) (sym (listed c.requires.0))
