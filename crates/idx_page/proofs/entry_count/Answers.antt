-- By the laws of how many entries a page is read to have.
use Rattle.std.proofs.Common.{sym, arith}
use Rattle.idx_page.specs.HeaderLaws.{is-page}
use Rattle.idx_page.proofs.ReadingLaws.{count_none, length-entries}
use Rattle.idx_page.proofs.entry_count.Goals as goal

pub returns-then-not-is_page : goal.returns-then-not-is_page
returns-then-not-is_page c = count_none _ _ _ _ (sym c.if-not-is_page.ensures)

pub at-head-requires : goal.at-head-requires
at-head-requires c = let o = is-page _ _ (sym c.if-not-is_page.ensures) in omega arith

pub returns : goal.returns
returns c = rw (c.min.ensures, c.capacity.ensures, c.at-head.ensures.count) (sym (length-entries _ _ _ _ (sym c.if-not-is_page.ensures)))
