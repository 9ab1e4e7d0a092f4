-- Ten characters say what those behind the blanks do.
use Rattle.std.proofs.Common.{◌≡◌, Some, None, sym, ◌∙◌, arith, ne_eqb}
use Rattle.std.proofs.lemmas.Result.{err_from_is_err_and}
use Rattle.refusal.specs.declared.Refusal.TheVariants as refusal
use Rattle.fpt_memo.specs.Memo.{memo_number}
use Rattle.fpt_memo.specs.NumberLaws.{number-said, number-blank, number-zero, number_unread, number-read}
use Rattle.fpt_memo.specs.NumberText.{number-answer}
use Rattle.fpt_memo.proofs.read_number.Goals as goal

pub returns-then-text-ne10 : goal.returns-then-text-ne10
unfolding memo_number
returns-then-text-ne10 c = number-answer _ _ (rw (ne_eqb _ 10 c.if-text-ne10.true))

pub returns-then-from-eq10 : goal.returns-then-from-eq10
returns-then-from-eq10 c =
    let text = c.args.text.now in
    let from = c.padding-from.result in
    number-answer text _ (sym (number-said text from c.if-text-ne10.false c.padding-from.ensures.1 ∙ number-blank text from (omega arith)))

pub returns-then-text-from-le48 : goal.returns-then-text-from-le48
returns-then-text-from-le48 c =
    let text = c.args.text.now in
    let from = c.padding-from.result in
    number-answer text _
    (sym (number-said text from c.if-text-ne10.false c.padding-from.ensures.1 ∙ number-zero text from (omega arith) c.if-text-from-le48.true))

pub returns-in_err-number : goal.returns-in_err-number
returns-in_err-number c =
    let text = c.args.text.now in
    let from = c.padding-from.result in
    let none : c.read_digits.result ≡ None = grind arith in
    let bad : c.in_err-number.field-0.0 ≡ refusal.MemoNumberOrPlace = grind arith in
    let p = err_from_is_err_and c.from_residual.result c.from_residual.ensures.1 in
    number-answer text _
    (sym
    (number-said text from c.if-text-ne10.false c.padding-from.ensures.1
    ∙ number_unread text from (omega arith) c.if-text-from-le48.false (sym c.read_digits.ensures ∙ none)
    ∙ rw (p.1, p.2, bad)))

pub returns : goal.returns
returns c =
    let text = c.args.text.now in
    let from = c.padding-from.result in
    let some : c.read_digits.result ≡ Some c.in_ok-number.number = grind arith in
    number-answer text _
    (sym
    (number-said text from c.if-text-ne10.false c.padding-from.ensures.1
    ∙ number-read text from (omega arith) _ c.if-text-from-le48.false (sym c.read_digits.ensures ∙ some)))
