-- A C field's own place, or the place of its memo.
use Rattle.std.proofs.Common.{◌≡◌, ◌≢◌, Option, Some, None, Ok, MatchOption, IsSomeAnd, sym, ◌∙◌, ne_eqb}
use Rattle.std.proofs.lemmas.Result.{err_from_is_err_and}
use Rattle.dbf_table.specs.Table.{type_c}
use Rattle.fpt_memo.specs.declared.Span.{Span}
use Rattle.dbf_cell.specs.declared.TextPlace.{TextPlace}
use Rattle.dbf_cell.specs.declared.TextPlace.TheVariants as text
use Rattle.dbf_cell.specs.Cell.{text_at, memo_part}
use Rattle.dbf_cell.proofs.text_at.Goals as goal

-- a place in the memo file is a text's place
memo_of : (memo : Option Span) (place : Option TextPlace) → MatchOption memo (place ≡ None) (λ span. IsSomeAnd place (λ p. p ≡ text.Memo span))
    → Ok place ≡ memo_part (Ok memo)
unfolding memo_part
memo_of None place e = rw e
memo_of (Some span) (Some p) e = rw e
memo_of (Some span) None e = absurd e

pub returns-then-place-letter : goal.returns-then-place-letter
unfolding text_at
returns-then-place-letter c = rw (c.from.ensures, c.if-place-letter.true, c.letter.ensures)

pub returns-in_err-text : goal.returns-in_err-text
unfolding text_at memo_part
returns-in_err-text c =
    let other : c.args.place.kind ≢ type_c = λ e. c.if-place-letter.false (e ∙ sym c.letter.ensures) in
    let p = err_from_is_err_and c.from_residual.result c.from_residual.ensures.1 in
    rw (p.1, p.2, ne_eqb _ _ other, ← c.field_bytes.ensures, ← c.in_err-text.ensures.case)

pub returns : goal.returns
unfolding text_at memo_part
returns c =
    let other : c.args.place.kind ≢ type_c = λ e. c.if-place-letter.false (e ∙ sym c.letter.ensures) in
    rw (ne_eqb _ _ other, ← c.field_bytes.ensures, ← c.in_ok-text.ensures.case) (memo_of _ _ c.map.ensures.cases)
