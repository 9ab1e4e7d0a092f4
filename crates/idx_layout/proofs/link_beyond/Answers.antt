-- The store is made exactly if the rule's test holds.
use Rattle.std.proofs.Common.{sym, ◌∙◌}
use Rattle.idx_page.specs.HeaderLaws.{is-page}
use Rattle.idx_layout.specs.Layout.{link_beyond}
use Rattle.idx_layout.proofs.link_beyond.Goals as goal

pub link_left-requires : goal.link_left-requires
link_left-requires c = (is-page _ _ (sym c.is_page.ensures ∙ c.if-is_page.true)).high

pub returns-then-is_page : goal.returns-then-is_page
unfolding link_beyond
returns-then-is_page c = rw (sym c.is_page.ensures ∙ c.if-is_page.true) c.link_left.ensures

pub returns-else-is_page : goal.returns-else-is_page
unfolding link_beyond
returns-else-is_page c = rw (sym c.is_page.ensures ∙ c.if-is_page.false)
