-- `idx_batch::is_call` meets its contract: the rule's three tests. Assumes nothing.
use mathlib.Core.Path.{sym}
use native.Mathlib.Omega.{arith}
use Rattle.idx_batch.specs.EncodingLaws.{no_head, by_kind}
use borrow.Author.Rules.{rules}
use Rattle.idx_batch.proofs.is_call.Statement.{statement}
use Rattle.idx_batch.proofs.is_call.Tie as tie

sub-if1 : tie.Need-overflow_sub-calls
sub-if1 c = search rules

returns : tie.Need-returns-then-calls-at-lt3
returns c = let start = c.before.before in sym (no_head start.args.calls.now start.args.at (omega arith))

byte-requires : tie.Need-byte-requires
byte-requires c κs = search rules

call-end-requires : tie.Need-call_end-requires
call-end-requires c κs = search rules

returns-2 : tie.Need-returns
returns-2 c =
    let at-if = c.before.before in
    let args = at-if.args in
    by_kind args.calls.now args.at (omega (arith, at-if.if-calls-at-lt3.false)) c.byte.ensures.0 c.call_end.ensures

pub is_call_spec : {M : Type 1} → statement M
is_call_spec = tie.close (tie.spec sub-if1 returns byte-requires call-end-requires returns-2)
