-- The tests are the rule's, in the rule's order.
use Rattle.std.proofs.Common.{sym, ◌∙◌}
use Rattle.fpt_memo.specs.MemoLaws.{text_no_head, text_no_end, text_other, text_found}
use Rattle.fpt_memo.proofs.MemoFile.block_text.Goals as goal

pub returns-then-not-head_fits : goal.returns-then-not-head_fits
returns-then-not-head_fits c = sym (text_no_head _ _ (sym c.head_fits.ensures ∙ c.if-not-head_fits.true))

pub returns-then-not-end_fits : goal.returns-then-not-end_fits
returns-then-not-end_fits c =
    sym (text_no_end _ _ _ c.load_be32-len.ensures (sym c.head_fits.ensures ∙ c.if-not-head_fits.false) (sym c.end_fits.ensures ∙ c.if-not-end_fits.true))

pub returns-then-load_be32-ne1 : goal.returns-then-load_be32-ne1
returns-then-load_be32-ne1 c =
    sym
    (text_other _ _ _ c.load_be32-len.ensures (sym c.head_fits.ensures ∙ c.if-not-head_fits.false) (sym c.end_fits.ensures ∙ c.if-not-end_fits.false)
    (λ text. c.if-load_be32-ne1.true (c.load_be32.ensures ∙ text)))

pub returns : goal.returns
returns c =
    sym
    (text_found _ _ _ c.load_be32-len.ensures (sym c.head_fits.ensures ∙ c.if-not-head_fits.false) (sym c.end_fits.ensures ∙ c.if-not-end_fits.false)
    (sym c.load_be32.ensures ∙ c.if-load_be32-ne1.false))
