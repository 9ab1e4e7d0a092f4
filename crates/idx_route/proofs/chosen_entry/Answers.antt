-- By the header's features, the pair's route; or the entry where the search for the key ends, the last if it passes all.
use Rattle.std.proofs.Common.{sym, ap, ◌∙◌, arith, ◌≡◌, ◌-◌, eqb, eqb-true, length}
use Rattle.std.proofs.lemmas.Bool.{eqb-false}
use Rattle.basis.specs.Tests.{either}
use Rattle.octets.specs.Bytes.{to_be32}
use Rattle.tree.specs.Pairs.{by_key}
use Rattle.tree.specs.Position.{Passes, position}
use Rattle.idx_page.specs.Header.{features}
use Rattle.idx_page.specs.HeaderLaws.{is-page}
use Rattle.idx_page.specs.KeyOrder.{bytes_order}
use Rattle.idx_page.specs.Reading.{Item}
use Rattle.idx_leaf.specs.Leaf.{items_in, stored}
use Rattle.idx_leaf.specs.Given.{Listed}
use Rattle.idx_leaf.specs.EntryLaws.{listed-within}
use Rattle.idx_leaf.specs.SearchLaws.{position-none, key-passed, search_le, search_place, search_last}
use Rattle.idx_route.specs.Route.{passes_above}
use Rattle.idx_route.specs.RouteLaws.{route_record, route-key}
use Rattle.idx_route.proofs.chosen_entry.Goals as goal

pub returns-then-count-eq0 : goal.returns-then-count-eq0
returns-then-count-eq0 c =
    let args = c.args in
    position-none (passes_above (features args.index.now) args.index.now (stored args.key.now args.number.0))
    (items_in (length args.key.now) args.index.now args.page.0) (sym c.entry_count-count.ensures ∙ c.if-count-eq0.true)

pub several-requires : goal.several-requires
several-requires c = let p = is-page _ _ c.requires.1 in omega arith

pub chosen_record-requires : goal.chosen_record-requires
chosen_record-requires c =
    (record { key = c.requires.0; page = c.requires.1; count = c.entry_count-count.ensures }, omega (arith, c.if-count-eq0.false))

pub returns-then-several : goal.returns-then-several
returns-then-several c =
    let args = c.args in
    c.chosen_record.ensures
    ∙ ap (λ (passes : Passes Item). position passes (items_in (length args.key.now) args.index.now args.page.0))
    (sym (route_record args.index.now (stored args.key.now args.number.0) (features args.index.now) (sym c.several.ensures ∙ c.if-several.true)))

pub first_at_or_above-requires : goal.first_at_or_above-requires
first_at_or_above-requires c = listed-within (record { key = c.requires.0; page = c.requires.1; count = c.entry_count-count.ensures })

pub returns : goal.returns
returns c =
    let args = c.args in
    let le = by_key bytes_order in
    let pair = stored args.key.now args.number.0 in
    let n = c.entry_count-count.result in
    let i = c.first_at_or_above.result in
    let l : Listed args.index.now (length args.key.now) args.page.0 n = record { key = c.requires.0; page = c.requires.1; count = c.entry_count-count.ensures } in
    let found = key-passed args.key.now (to_be32 args.number.0) l c.first_at_or_above.ensures.0 in
    let most = search_le le pair l found in
    either (eqb i n)
    (λ t.
    let e = eqb-true i n t in
    let m : c.min.result ≡ n - 1 = omega arith in
    m ∙ search_last le pair l found e)
    (λ t.
    let d = eqb-false i n t in
    let m : c.min.result ≡ i = omega arith in
    m ∙ search_place le pair l found d)
    ∙ ap (λ (passes : Passes Item). position passes (items_in (length args.key.now) args.index.now args.page.0))
    (sym (route-key args.index.now pair (features args.index.now) (sym c.several.ensures ∙ c.if-several.false)))
