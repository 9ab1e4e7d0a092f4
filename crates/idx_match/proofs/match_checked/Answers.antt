-- `match_checked`: a refusal before the audit, the audit's, or what the test of the entries says.
use Rattle.std.proofs.Common.{refl, sym, ap, ◌∙◌, arith}
use Rattle.std.proofs.lemmas.Result.{err_from_is_err_and}
use Rattle.refusal.specs.RefusalLaws.{refusal-some}
use Rattle.dbf_field.specs.FieldLaws.{entry-inside}
use Rattle.idx_match.specs.declared.Column.{Column}
use Rattle.idx_match.specs.MatchTest.{entries_match, leaf_entries}
use Rattle.idx_match.proofs.CallLaws.{ready, column_is, column-ready, answer-refused, answer-audited, answer-matched, answer-other}
use Rattle.idx_match.proofs.match_checked.Goals as goal

pub returns-in_err-check_field : goal.returns-in_err-check_field
returns-in_err-check_field c =
    let p = err_from_is_err_and c.from_residual.result c.from_residual.ensures.1 in
    rw (p.1, p.2) (answer-refused _ _ _ _ c.in_err-check_field.ensures (refusal-some _))

pub returns-in_err-audit : goal.returns-in_err-audit
returns-in_err-audit c =
    let p = err_from_is_err_and c.from_residual-in_err-audit.result c.from_residual-in_err-audit.ensures.1 in
    let none = sym c.in_ok-check_field.ensures in
    rw (p.1, p.2) (answer-audited _ _ _ none _ c.in_err-audit.ensures (ready _ _ _ c.requires.table none).header (refusal-some _))

pub overflow_sub-field : goal.overflow_sub-field
overflow_sub-field c = omega (arith, (ready _ _ _ c.requires.table (sym c.in_ok-check_field.ensures)).from)

pub entry_at-entry-requires : goal.entry_at-entry-requires
entry_at-entry-requires c =
    let known = ready _ _ _ c.requires.table (sym c.in_ok-check_field.ensures) in
    entry-inside _ _ c.requires.table (omega arith)

pub entries_match-requires : goal.entries_match-requires
entries_match-requires c =
    let known = ready _ _ _ c.requires.table (sym c.in_ok-check_field.ensures) in
    let all = column-ready _ _ _ c.requires.table _ (column_is _ c.args.shape c.entry_at-entry.result c.args.field c.requires c.entry_at-entry.ensures) known in
    record { column = all.0; header = all.1; length = all.2 }

pub returns-then-not-entries_match : goal.returns-then-not-entries_match
returns-then-not-entries_match c =
    let a = c.args in
    let same = column_is _ a.shape c.entry_at-entry.result a.field c.requires c.entry_at-entry.ensures in
    answer-other _ _ _ (sym c.in_ok-check_field.ensures) _ c.in_ok-audit.ensures refl _
    (c.entries_match.ensures ∙ ap (λ (x : Column). entries_match a.table.now x 0 (leaf_entries a.index.now)) same) c.if-not-entries_match.true

pub returns : goal.returns
returns c =
    let a = c.args in
    let same = column_is _ a.shape c.entry_at-entry.result a.field c.requires c.entry_at-entry.ensures in
    answer-matched _ _ _ (sym c.in_ok-check_field.ensures) _ c.in_ok-audit.ensures refl _
    (c.entries_match.ensures ∙ ap (λ (x : Column). entries_match a.table.now x 0 (leaf_entries a.index.now)) same) c.if-not-entries_match.false
