-- The offset is tested before the page is read.
use Rattle.std.proofs.Common.{sym, arith}
use Rattle.idx_page.specs.HeaderLaws.{is-page}
use Rattle.idx_page.proofs.page_good.Goals as goal

pub at-head-requires : goal.at-head-requires
at-head-requires c = let o = is-page _ _ (sym c.if-not-is_page.ensures) in omega arith
