-- The offset is tested before the page is read.
use Rattle.std.proofs.Common.{sym, arith}
use Rattle.idx_page.specs.HeaderLaws.{is-page}
use Rattle.idx_page.proofs.leaf_at.Goals as goal

pub at-requires : goal.at-requires
at-requires c = let o = is-page _ _ (sym c.if-is_page.ensures) in omega arith
