-- What the M field's text says decides, case by case.
use Rattle.std.proofs.Common.{sym}
use Rattle.std.proofs.lemmas.Result.{err_from_is_err_and}
use Rattle.fpt_memo.specs.Memo.{read_text, memo_text}
use Rattle.fpt_memo.specs.NumberLaws.{number_between}
use Rattle.fpt_memo.specs.MemoLaws.{memo_answer}
use Rattle.fpt_memo.proofs.memo_place.Goals as goal

pub numbered_text-requires : goal.numbered_text-requires
numbered_text-requires c = (number_between _ _ (sym (rw c.in-Some.is at c.in_ok-number.ensures.case))).1

pub returns-in_err-number : goal.returns-in_err-number
unfolding memo_text read_text
returns-in_err-number c =
    let p = err_from_is_err_and c.from_residual.result c.from_residual.ensures.1 in
    memo_answer _ _ _ (rw (p.1, p.2, ← c.in_err-number.ensures.case))

pub returns-in-Some : goal.returns-in-Some
unfolding memo_text read_text
returns-in-Some c =
    let said = rw c.in-Some.is at c.in_ok-number.ensures.case in
    memo_answer _ _ _ (rw (← said) c.numbered_text.ensures)

pub returns-in-None : goal.returns-in-None
unfolding memo_text read_text
returns-in-None c =
    let said = rw c.in-None.is at c.in_ok-number.ensures.case in
    memo_answer _ _ _ (rw (← said))
