-- The rule's tests in its order.
use Rattle.std.proofs.Common.{◌∙◌, sym, ap, refl}
use Rattle.std.proofs.lemmas.Result.{err_from_is_err_and}
use Rattle.idx_page.specs.Header.{max_levels}
use Rattle.idx_page.specs.HeaderLaws.{good-header}
use Rattle.idx_sound.proofs.Accepted.{audit_sound}
use Rattle.idx_path.specs.Room.{no_room}
use Rattle.idx_path.specs.RoomLaws.{path-levels, path-run}
use Rattle.idx_path.specs.declared.Path.{Path}
use Rattle.idx_insert.specs.CallLaws.{control_any, refused_24, refused_25, refused_27, refused_28, refused_29, refused_30, refused_32}
use Rattle.idx_insert.specs.CallLaws.{accepted_pair, audit-refused}
use Rattle.idx_insert.proofs.insert.Goals as goal

pub returns-then-not-header_good : goal.returns-then-not-header_good
returns-then-not-header_good c = refused_24 _ _ _ (sym c.header_good.ensures ∙ c.if-not-header_good.true)

pub key_length-requires : goal.key_length-requires
key_length-requires c = (good-header _ (sym c.header_good.ensures ∙ c.if-not-header_good.false)).long

pub returns-then-key-key_length : goal.returns-then-key-key_length
returns-then-key-key_length c =
    refused_27 _ _ _ (sym c.header_good.ensures ∙ c.if-not-header_good.false) (λ e. c.if-key-key_length.true (e ∙ sym c.key_length.ensures))

pub returns-then-control : goal.returns-then-control
returns-then-control c =
    refused_32 _ _ _ (sym c.header_good.ensures ∙ c.if-not-header_good.false) (c.if-key-key_length.false ∙ c.key_length.ensures)
    (control_any _ ∙ sym c.has_control-control.ensures ∙ c.if-control.true)

pub returns-then-zero : goal.returns-then-zero
returns-then-zero c =
    refused_28 _ _ _ (sym c.header_good.ensures ∙ c.if-not-header_good.false) (c.if-key-key_length.false ∙ c.key_length.ensures)
    (control_any _ ∙ sym c.has_control-control.ensures ∙ c.if-control.false) c.if-zero.true

pub returns-in_err-audit : goal.returns-in_err-audit
returns-in_err-audit c =
    let p = err_from_is_err_and c.from_residual.result c.from_residual.ensures.1 in
    let q = audit-refused _ _ (sym c.header_good.ensures ∙ c.if-not-header_good.false) c.in_err-audit.ensures in
    rw (p.1, p.2, q.0)
    (refused_25 _ _ _ (sym c.header_good.ensures ∙ c.if-not-header_good.false) (c.if-key-key_length.false ∙ c.key_length.ensures)
    (control_any _ ∙ sym c.has_control-control.ensures ∙ c.if-control.false) c.if-zero.false q.1)

pub returns-then-path : goal.returns-then-path
returns-then-path c =
    refused_29 _ _ _ (sym c.header_good.ensures ∙ c.if-not-header_good.false) (c.if-key-key_length.false ∙ c.key_length.ensures)
    (control_any _ ∙ sym c.has_control-control.ensures ∙ c.if-control.false) c.if-zero.false
    (audit_sound _ (sym c.header_good.ensures ∙ c.if-not-header_good.false) c.in_ok-audit.ensures refl)
    (sym (ap (λ (path : Path). path.present) c.path_to-path.ensures) ∙ c.if-path.true)

pub no_room-requires : goal.no_room-requires
no_room-requires c = (
  (sym c.header_good.ensures ∙ c.if-not-header_good.false),
  rw c.path_to-path.ensures (path-levels _ max_levels _ _ _),
  rw c.path_to-path.ensures (path-run _ max_levels _ _ _),
)

pub returns-then-no_room : goal.returns-then-no_room
returns-then-no_room c =
    refused_30 _ _ _ (sym c.header_good.ensures ∙ c.if-not-header_good.false) (c.if-key-key_length.false ∙ c.key_length.ensures)
    (control_any _ ∙ sym c.has_control-control.ensures ∙ c.if-control.false) c.if-zero.false
    (audit_sound _ (sym c.header_good.ensures ∙ c.if-not-header_good.false) c.in_ok-audit.ensures refl)
    (sym (ap (λ (path : Path). path.present) c.path_to-path.ensures) ∙ c.if-path.false)
    (sym (c.no_room.ensures ∙ ap (no_room _) c.path_to-path.ensures) ∙ c.if-no_room.true)

pub returns : goal.returns
returns c =
    accepted_pair _ _ _ (sym c.header_good.ensures ∙ c.if-not-header_good.false) (c.if-key-key_length.false ∙ c.key_length.ensures)
    (control_any _ ∙ sym c.has_control-control.ensures ∙ c.if-control.false) c.if-zero.false
    (audit_sound _ (sym c.header_good.ensures ∙ c.if-not-header_good.false) c.in_ok-audit.ensures refl)
    (sym (ap (λ (path : Path). path.present) c.path_to-path.ensures) ∙ c.if-path.false)
    (sym (c.no_room.ensures ∙ ap (no_room _) c.path_to-path.ensures) ∙ c.if-no_room.false) c.insert_pair.ensures
