-- `records`: the rule's tests in its order, and then two passes.
use Rattle.std.proofs.Common.{refl, sym, ◌∙◌}
use Rattle.std.proofs.lemmas.Result.{err_from_is_err_and}
use Rattle.refusal.specs.RefusalLaws.{refusal-some}
use Rattle.idx_page.specs.HeaderLaws.{good-header}
use Rattle.idx_sound.proofs.Accepted.{audit_sound, audit_unsound}
use Rattle.idx_match.proofs.CallLaws.{unsound-number}
use Rattle.idx_records.specs.CallLaws.{refused_24, refused_27, refused_25, refused_39, accepted-all}
use Rattle.idx_records.proofs.records.Goals as goal

pub returns-then-not-header_good : goal.returns-then-not-header_good
returns-then-not-header_good c = λ count. refused_24 _ _ _ count (sym c.header_good.ensures ∙ c.if-not-header_good.true)

pub key_length-requires : goal.key_length-requires
key_length-requires c = (good-header _ (sym c.header_good.ensures ∙ c.if-not-header_good.false)).long

pub returns-then-key-key_length : goal.returns-then-key-key_length
returns-then-key-key_length c = λ count. refused_27 _ _ _ count (sym c.header_good.ensures ∙ c.if-not-header_good.false)
    (λ e. c.if-key-key_length.true (e ∙ sym c.key_length.ensures))

pub take_all-n-requires-clause-header : goal.take_all-n-requires-clause-header
take_all-n-requires-clause-header c = sym c.header_good.ensures ∙ c.if-not-header_good.false

pub take_all-n-requires-clause-length : goal.take_all-n-requires-clause-length
take_all-n-requires-clause-length c = c.if-key-key_length.false ∙ c.key_length.ensures

pub returns-in_err-audit : goal.returns-in_err-audit
returns-in_err-audit c = λ count.
    let p = err_from_is_err_and c.from_residual.result c.from_residual.ensures.1 in
    let header = sym c.header_good.ensures ∙ c.if-not-header_good.false in
    rw (p.1, p.2, unsound-number _ _ c.in_err-audit.ensures header (refusal-some _))
    (refused_25 _ _ _ count header (c.if-key-key_length.false ∙ c.key_length.ensures) (audit_unsound _ header c.in_err-audit.ensures (refusal-some _)))

pub returns-then-list-n : goal.returns-then-list-n
returns-then-list-n c = λ count.
    let header = sym c.header_good.ensures ∙ c.if-not-header_good.false in
    refused_39 _ _ _ count header (c.if-key-key_length.false ∙ c.key_length.ensures) (audit_sound _ header c.in_ok-audit.ensures refl) _ _
    c.take_all-n.ensures.taken c.if-list-n.true

pub take_all-requires-clause-header : goal.take_all-requires-clause-header
take_all-requires-clause-header c = sym c.header_good.ensures ∙ c.if-not-header_good.false

pub take_all-requires-clause-length : goal.take_all-requires-clause-length
take_all-requires-clause-length c = c.if-key-key_length.false ∙ c.key_length.ensures

pub returns : goal.returns
returns c = λ count.
    let header = sym c.header_good.ensures ∙ c.if-not-header_good.false in
    accepted-all _ _ _ count header (c.if-key-key_length.false ∙ c.key_length.ensures) (audit_sound _ header c.in_ok-audit.ensures refl) _ _
    c.take_all-n.ensures.taken c.if-list-n.false _ _ c.take_all.ensures.taken
