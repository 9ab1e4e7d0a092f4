-- The entry where the search ends, or the last if it passes all.
use Rattle.std.proofs.Common.{◌∙◌, arith, ◌≡◌, ◌-◌, eqb, eqb-true, length}
use Rattle.std.proofs.lemmas.Bool.{eqb-false}
use Rattle.basis.specs.Tests.{either}
use Rattle.idx_page.specs.Header.{features}
use Rattle.idx_page.specs.EntryOrder.{item_order}
use Rattle.idx_leaf.specs.Leaf.{stored}
use Rattle.idx_leaf.specs.Given.{Listed}
use Rattle.idx_leaf.specs.SearchLaws.{search_le, search_place, search_last}
use Rattle.idx_leaf.proofs.leaf_entry.Goals as goal

pub returns : goal.returns
returns c =
    let args = c.args in
    let le = item_order (features args.index.now) in
    let pair = stored args.key.now args.number.0 in
    let n = c.entry_count-count.result in
    let i = c.place.result in
    let l : Listed args.index.now (length args.key.now) args.page.0 n = record { key = c.requires.0; page = c.requires.1; count = c.entry_count-count.ensures } in
    let most = search_le le pair l c.place.ensures in
    either (eqb i n)
    (λ t.
    let e = eqb-true i n t in
    let m : c.min.result ≡ n - 1 = omega arith in
    m ∙ search_last le pair l c.place.ensures e)
    (λ t.
    let d = eqb-false i n t in
    let m : c.min.result ≡ i = omega arith in
    m ∙ search_place le pair l c.place.ensures d)
