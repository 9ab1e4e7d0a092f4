-- `check_field`: the tests of the header, the field's number, its type and its length, in their order.
use Rattle.std.proofs.Common.{sym, ◌∙◌, arith}
use Rattle.idx_page.specs.HeaderLaws.{good-header}
use Rattle.dbf_field.specs.FieldLaws.{number-range, entry-inside}
use Rattle.idx_match.proofs.CallLaws.{refused_24, refused_12, refused_13, refused_27, refused_none, entry-kind, entry-length}
use Rattle.idx_match.proofs.check_field.Goals as goal

pub returns-then-not-header_good : goal.returns-then-not-header_good
returns-then-not-header_good c = refused_24 _ _ _ c.requires.table (sym c.header_good.ensures ∙ c.if-not-header_good.true)

pub returns-then-not-number_good : goal.returns-then-not-number_good
returns-then-not-number_good c =
    refused_12 _ _ _ c.requires.table (sym c.header_good.ensures ∙ c.if-not-header_good.false)
    (rw c.requires.fields at (sym c.number_good.ensures ∙ c.if-not-number_good.true))

pub overflow_sub-field : goal.overflow_sub-field
overflow_sub-field c =
    omega (arith, (number-range _ _ (sym c.number_good.ensures ∙ c.if-not-number_good.false)).0)

pub entry_at-entry-requires : goal.entry_at-entry-requires
entry_at-entry-requires c =
    let range = number-range _ _ (rw c.requires.fields at (sym c.number_good.ensures ∙ c.if-not-number_good.false)) in
    entry-inside _ _ c.requires.table (omega arith)

pub returns-then-entry-letter : goal.returns-then-entry-letter
returns-then-entry-letter c =
    refused_13 _ _ _ c.requires.table (sym c.header_good.ensures ∙ c.if-not-header_good.false)
    (rw c.requires.fields at (sym c.number_good.ensures ∙ c.if-not-number_good.false))
    (λ e. c.if-entry-letter.true (entry-kind _ _ _ c.entry_at-entry.ensures ∙ e ∙ sym c.letter.ensures))

pub key_length-requires : goal.key_length-requires
key_length-requires c = (good-header _ (sym c.header_good.ensures ∙ c.if-not-header_good.false)).long

pub returns-then-entry-key_length : goal.returns-then-entry-key_length
returns-then-entry-key_length c =
    refused_27 _ _ _ c.requires.table (sym c.header_good.ensures ∙ c.if-not-header_good.false)
    (rw c.requires.fields at (sym c.number_good.ensures ∙ c.if-not-number_good.false))
    (sym (entry-kind _ _ _ c.entry_at-entry.ensures) ∙ c.if-entry-letter.false ∙ c.letter.ensures)
    (λ e. c.if-entry-key_length.true (entry-length _ _ _ c.entry_at-entry.ensures ∙ e ∙ sym c.key_length.ensures))

pub returns : goal.returns
returns c =
    refused_none _ _ _ c.requires.table (sym c.header_good.ensures ∙ c.if-not-header_good.false)
    (rw c.requires.fields at (sym c.number_good.ensures ∙ c.if-not-number_good.false))
    (sym (entry-kind _ _ _ c.entry_at-entry.ensures) ∙ c.if-entry-letter.false ∙ c.letter.ensures)
    (sym (entry-length _ _ _ c.entry_at-entry.ensures) ∙ c.if-entry-key_length.false ∙ c.key_length.ensures)
