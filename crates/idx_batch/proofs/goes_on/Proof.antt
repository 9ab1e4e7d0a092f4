-- `idx_batch::goes_on` meets its contract: a whole call, and room for its answer. Assumes nothing.
use borrow.Author.Rules.{rules}
use Rattle.idx_batch.proofs.goes_on.Statement.{statement}
use Rattle.idx_batch.proofs.goes_on.Tie as tie

is-call-requires : tie.Need-is_call-requires
is-call-requires c κs = search rules

returns : tie.Need-returns
returns c = rw c.is_call.ensures

pub goes_on_spec : {M : Type 1} → statement M
goes_on_spec = tie.close (tie.spec is-call-requires returns)
