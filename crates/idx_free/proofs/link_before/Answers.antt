-- The store is made exactly if the rule's test holds.
use Rattle.std.proofs.Common.{sym, ◌∙◌}
use Rattle.idx_page.specs.HeaderLaws.{is-page}
use Rattle.idx_layout.specs.Layout.{link_before}
use Rattle.idx_free.proofs.link_before.Goals as goal

pub link_right-requires : goal.link_right-requires
link_right-requires c = (is-page _ _ (sym c.is_page.ensures ∙ c.if-is_page.true)).high

pub returns-then-is_page : goal.returns-then-is_page
unfolding link_before
returns-then-is_page c = rw (sym c.is_page.ensures ∙ c.if-is_page.true) c.link_right.ensures

pub returns-else-is_page : goal.returns-else-is_page
unfolding link_before
returns-else-is_page c = rw (sym c.is_page.ensures ∙ c.if-is_page.false)
