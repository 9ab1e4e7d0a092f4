-- The type decides who reads the text.
use Rattle.std.specs.Prelude.{ℕ}
use Rattle.std.proofs.Common.{◌≡◌, ◌∙◌, sym, ap, arith}
use Rattle.std.proofs.lemmas.Result.{err_from_is_err_and}
use Rattle.dbf_table.specs.Table.{type_c, type_n, type_d, type_l, type_m}
use Rattle.dbf_cell.specs.Cell.{logical_of}
use Rattle.dbf_cell.specs.Codes.{number_refusal}
use Rattle.dbf_append.specs.Append.{date_refusal, logical_refusal, memo_refusal}
use Rattle.dbf_append.specs.CheckLaws.{letter_is, text_number, text_date, text_logical, text_memo, text_any, text_taken, number_taken, date_taken, logical_taken, memo_taken}
use Rattle.dbf_append.proofs.check_text.Goals as goal

pub returns-in_err-read_number-in-Some-Number : goal.returns-in_err-read_number-in-Some-Number
unfolding number_refusal
returns-in_err-read_number-in-Some-Number c =
    let letter : c.args.letter ≡ type_n = grind arith in
    let p = err_from_is_err_and c.from_residual.result c.from_residual.ensures.1 in
    rw (p.1, p.2) (sym (text_number _ _ _ letter ∙ ap number_refusal (sym c.in_err-read_number-in-Some-Number.ensures)))

pub returns-in_ok-read_number-in-Some-Number : goal.returns-in_ok-read_number-in-Some-Number
returns-in_ok-read_number-in-Some-Number c =
    let letter : c.args.letter ≡ type_n = grind arith in
    sym (text_number _ _ _ letter ∙ ap number_refusal (sym c.in_ok-read_number-in-Some-Number.ensures) ∙ number_taken _)

pub returns-in_err-read_date-in-Some-Date : goal.returns-in_err-read_date-in-Some-Date
unfolding date_refusal
returns-in_err-read_date-in-Some-Date c =
    let letter : c.args.letter ≡ type_d = grind arith in
    let p = err_from_is_err_and c.from_residual-in_err-read_date-in-Some-Date.result c.from_residual-in_err-read_date-in-Some-Date.ensures.1 in
    rw (p.1, p.2) (sym (text_date _ _ _ letter ∙ ap date_refusal (sym c.in_err-read_date-in-Some-Date.ensures)))

pub returns-in_ok-read_date-in-Some-Date : goal.returns-in_ok-read_date-in-Some-Date
returns-in_ok-read_date-in-Some-Date c =
    let letter : c.args.letter ≡ type_d = grind arith in
    sym (text_date _ _ _ letter ∙ ap date_refusal (sym c.in_ok-read_date-in-Some-Date.ensures) ∙ date_taken _)

pub returns-in_err-logical_of-in-Some-Logical : goal.returns-in_err-logical_of-in-Some-Logical
unfolding logical_refusal
returns-in_err-logical_of-in-Some-Logical c =
    let letter : c.args.letter ≡ type_l = grind arith in
    let p = err_from_is_err_and c.from_residual-in_err-logical_of-in-Some-Logical.result c.from_residual-in_err-logical_of-in-Some-Logical.ensures.1 in
    let byte = ap (λ b. logical_refusal (logical_of b)) (sym c.byte.ensures.0) in
    rw (p.1, p.2) (sym (text_logical _ _ _ letter ∙ byte ∙ ap logical_refusal (sym c.in_err-logical_of-in-Some-Logical.ensures)))

pub returns-in_ok-logical_of-in-Some-Logical : goal.returns-in_ok-logical_of-in-Some-Logical
returns-in_ok-logical_of-in-Some-Logical c =
    let letter : c.args.letter ≡ type_l = grind arith in
    let byte = ap (λ b. logical_refusal (logical_of b)) (sym c.byte.ensures.0) in
    sym (text_logical _ _ _ letter ∙ byte ∙ ap logical_refusal (sym c.in_ok-logical_of-in-Some-Logical.ensures) ∙ logical_taken _)

pub returns-in_err-read_number-in-Some-Memo : goal.returns-in_err-read_number-in-Some-Memo
unfolding memo_refusal
returns-in_err-read_number-in-Some-Memo c =
    let letter : c.args.letter ≡ type_m = grind arith in
    let p = err_from_is_err_and c.from_residual-in_err-read_number-in-Some-Memo.result c.from_residual-in_err-read_number-in-Some-Memo.ensures.1 in
    rw (p.1, p.2) (sym (text_memo _ _ _ letter ∙ ap memo_refusal (sym c.in_err-read_number-in-Some-Memo.ensures.case)))

pub returns-in_ok-read_number-in-Some-Memo : goal.returns-in_ok-read_number-in-Some-Memo
returns-in_ok-read_number-in-Some-Memo c =
    let letter : c.args.letter ≡ type_m = grind arith in
    sym (text_memo _ _ _ letter ∙ ap memo_refusal (sym c.in_ok-read_number-in-Some-Memo.ensures.case) ∙ memo_taken _)

pub returns-in-Some-Text : goal.returns-in-Some-Text
returns-in-Some-Text c =
    let letter : c.args.letter ≡ type_c = grind arith in
    rw letter (sym (text_any type_c _ _ (λ e. omega arith) (λ e. omega arith) (λ e. omega arith) (λ e. omega arith)))

pub returns-in-None : goal.returns-in-None
returns-in-None c = sym (text_taken _ _ _ (sym c.in-None.ensures))
