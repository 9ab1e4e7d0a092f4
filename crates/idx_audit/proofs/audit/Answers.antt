-- `idx_audit::audit`: the rule accepts exactly the sound indexes.
use Rattle.std.proofs.Common.{sym, ◌∙◌}
use Rattle.idx_sound.proofs.Accepted.{answer-bad, answer-sound, answer-unsound}
use Rattle.idx_audit.proofs.audit.Goals as goal

pub returns-then-not-header_good : goal.returns-then-not-header_good
returns-then-not-header_good c = answer-bad _ (sym c.header_good.ensures ∙ c.if-not-header_good.true)

pub returns-then-not-pages_good : goal.returns-then-not-pages_good
returns-then-not-pages_good c =
    answer-unsound _ (sym c.header_good.ensures ∙ c.if-not-header_good.false) (sym c.pages_good.ensures ∙ c.if-not-pages_good.true)

pub returns : goal.returns
returns c = answer-sound _ (sym c.header_good.ensures ∙ c.if-not-header_good.false) (sym c.pages_good.ensures ∙ c.if-not-pages_good.false)
