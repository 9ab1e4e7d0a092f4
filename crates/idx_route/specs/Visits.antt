-- Steps: what the way of an entry meets at a page. Inner contracts, laws and proofs cite them: a reader need not believe them.
use Rattle.std.specs.Prelude.{ℕ, cond, List, length}
use Rattle.idx_page.specs.Header.{is_page}
use Rattle.idx_page.specs.Page.{attribute_at, leaf_bit}
use Rattle.idx_page.specs.Reading.{Item}
use Rattle.idx_leaf.specs.Leaf.{items_in}
use Rattle.idx_route.specs.Route.{chosen_at, child_of}
use Rattle.idx_route.specs.declared.Visit.{Visit}
use Rattle.idx_route.specs.declared.Visit.TheVariants as visit

-- what the way of the entry e meets at p: no page, a leaf, or a page with the entry that e goes under, by its number, and the child of that entry
unfoldable pub visit_of : List ℕ → Item → ℕ → Visit
visit_of b e p =
    let es = items_in (length e.0) b p in
    let i = chosen_at b e es in
    let child = visit.Child i (record { 0 = child_of i es }) in
    cond (is_page (length b) p) (cond (leaf_bit (attribute_at b p)) visit.Leaf child) visit.Bad
