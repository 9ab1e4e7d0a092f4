-- The head of the free list if it is a page, else the page at the file's end.
use Rattle.std.proofs.Common.{sym, arith}
use Rattle.idx_page.specs.HeaderLaws.{is-page}
use Rattle.idx_supply.specs.SupplyLaws.{takes-free, takes-end}
use Rattle.idx_supply.proofs.take_page.Goals as goal

pub at-requires : goal.at-requires
at-requires c = omega (arith, (is-page _ _ (sym c.if-is_page.ensures)).high)

pub returns-then-is_page : goal.returns-then-is_page
returns-then-is_page c = takes-free _ _ (sym c.if-is_page.ensures) c.at.ensures.right

pub returns : goal.returns
returns c = takes-end _ _ (sym c.if-is_page.ensures) c.next_page-beyond.ensures
