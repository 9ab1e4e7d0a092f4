-- A file too short for a header has no good one; for any other the tests are the rule's.
use Rattle.std.proofs.Common.{sym, ◌∙◌}
use Rattle.refusal.specs.Checks.{unless}
use Rattle.fpt_memo.specs.Memo.{numbered_text}
use Rattle.fpt_memo.specs.MemoLaws.{header-short}
use Rattle.fpt_memo.proofs.numbered_text.Goals as goal

pub returns-in_default : goal.returns-in_default
unfolding numbered_text unless
returns-in_default c = let short = c.in_default.ensures in rw (header-short _ short)

pub returns-then-not-header_good : goal.returns-then-not-header_good
unfolding numbered_text unless
returns-then-not-header_good c =
    let same = c.in-Some.ensures in
    rw (← same, sym c.header_good.ensures ∙ c.if-not-header_good.true)

pub returns : goal.returns
unfolding numbered_text unless
returns c =
    let same = c.in-Some.ensures in
    rw (← same, sym c.header_good.ensures ∙ c.if-not-header_good.false) (c.block_text.ensures ∙ rw c.block_size.ensures.0)
