-- By the header's features, the search for the pair or for the key.
use Rattle.std.proofs.Common.{sym, ap, ◌∙◌, arith, Bool, length}
use Rattle.octets.specs.Bytes.{to_be32}
use Rattle.idx_page.specs.Header.{features}
use Rattle.idx_page.specs.HeaderLaws.{is-page}
use Rattle.idx_page.specs.Reading.{Item}
use Rattle.idx_leaf.specs.Leaf.{items_in, stored}
use Rattle.idx_leaf.specs.EntryLaws.{listed-within, passed_count, order_record, order-key}
use Rattle.idx_leaf.specs.SearchLaws.{key-passed}
use Rattle.idx_leaf.proofs.place.Goals as goal

pub several-requires : goal.several-requires
several-requires c = let p = is-page _ _ c.requires.page in omega arith

pub returns-then-several : goal.returns-then-several
returns-then-several c =
    let args = c.args in
    c.pairs_below.ensures
    ∙ ap (λ (le : Item → Item → Bool). passed_count le (stored args.key.now args.number.0)
    (items_in (length args.key.now) args.index.now args.page.0))
    (sym (order_record (features args.index.now) (sym c.several.ensures ∙ c.if-several.true)))

pub first_at_or_above-requires : goal.first_at_or_above-requires
first_at_or_above-requires c = listed-within c.requires

pub returns : goal.returns
returns c =
    let args = c.args in
    key-passed args.key.now (to_be32 args.number.0) c.requires c.first_at_or_above.ensures.0
    ∙ ap (λ (le : Item → Item → Bool). passed_count le (stored args.key.now args.number.0)
    (items_in (length args.key.now) args.index.now args.page.0))
    (sym (order-key (features args.index.now) (sym c.several.ensures ∙ c.if-several.false)))
