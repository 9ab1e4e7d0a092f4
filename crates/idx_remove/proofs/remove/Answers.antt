-- The rule's tests in its order.
use Rattle.std.proofs.Common.{◌∙◌, sym, refl}
use Rattle.std.proofs.lemmas.Result.{err_from_is_err_and}
use Rattle.idx_page.specs.HeaderLaws.{good-header}
use Rattle.idx_sound.proofs.Accepted.{audit_sound}
use Rattle.idx_remove.specs.CallLaws.{refused_24, refused_25, refused_27, refused_33, accepted_pair, audit-refused}
use Rattle.idx_remove.proofs.remove.Goals as goal

pub returns-then-not-header_good : goal.returns-then-not-header_good
returns-then-not-header_good c = refused_24 _ _ _ (sym c.header_good.ensures ∙ c.if-not-header_good.true)

pub key_length-requires : goal.key_length-requires
key_length-requires c = (good-header _ (sym c.header_good.ensures ∙ c.if-not-header_good.false)).long

pub returns-then-key-key_length : goal.returns-then-key-key_length
returns-then-key-key_length c = refused_27 _ _ _ (sym c.header_good.ensures ∙ c.if-not-header_good.false) (λ e. c.if-key-key_length.true (e ∙ sym c.key_length.ensures))

pub returns-in_err-audit : goal.returns-in_err-audit
returns-in_err-audit c =
    let p = err_from_is_err_and c.from_residual.result c.from_residual.ensures.1 in
    let q = audit-refused _ _ (sym c.header_good.ensures ∙ c.if-not-header_good.false) c.in_err-audit.ensures in
    rw (p.1, p.2, q.0) (refused_25 _ _ _ (sym c.header_good.ensures ∙ c.if-not-header_good.false) (c.if-key-key_length.false ∙ c.key_length.ensures) q.1)

pub returns-then-not-is_there : goal.returns-then-not-is_there
returns-then-not-is_there c =
    refused_33 _ _ _ (sym c.header_good.ensures ∙ c.if-not-header_good.false) (c.if-key-key_length.false ∙ c.key_length.ensures)
    (audit_sound _ (sym c.header_good.ensures ∙ c.if-not-header_good.false) c.in_ok-audit.ensures refl)
    (sym c.is_there.ensures ∙ c.if-not-is_there.true)

pub returns : goal.returns
returns c =
    accepted_pair _ _ _ (sym c.header_good.ensures ∙ c.if-not-header_good.false) (c.if-key-key_length.false ∙ c.key_length.ensures)
    (audit_sound _ (sym c.header_good.ensures ∙ c.if-not-header_good.false) c.in_ok-audit.ensures refl)
    (sym c.is_there.ensures ∙ c.if-not-is_there.false) c.remove_pair.ensures
