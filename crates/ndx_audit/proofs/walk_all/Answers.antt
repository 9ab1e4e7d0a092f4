-- `ndx_audit::walk_all` meets its contract: the walk from the root, and then the count. Assumes nothing.
use Rattle.std.proofs.Common.{◌∙◌, refl, eq-eqb, ne_eqb}
use Rattle.ndx_audit.specs.PageLaws.{tree_is}
use Rattle.ndx_audit.proofs.walk_all.Goals as goal

pub returns-then-walk-page_count : goal.returns-then-walk-page_count
returns-then-walk-page_count c =
    let walked = rw (c.in_ok-page.was, c.height_of-height.ensures, c.root-root.ensures) at c.page.ensures in
    (tree_is _ _ walked ∙ ne_eqb _ _ (λ e. c.if-walk-page_count.true (rw c.page_count.ensures e)), refl)

pub returns : goal.returns
returns c =
    let walked = rw (c.in_ok-page.was, c.height_of-height.ensures, c.root-root.ensures) at c.page.ensures in
    tree_is _ _ walked ∙ eq-eqb _ _ (rw c.page_count.ensures at c.if-walk-page_count.false)
