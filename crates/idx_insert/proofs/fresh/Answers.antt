-- The rule's tests in its order.
use Rattle.std.proofs.Common.{◌∙◌, sym}
use Rattle.basis.specs.Tests.{both}
use Rattle.idx_page.specs.HeaderLaws.{good-key-length}
use Rattle.idx_insert.specs.CallLaws.{fresh_27, fresh_24, fresh_30, fresh-made, features-most, expression-most}
use Rattle.idx_insert.proofs.fresh.Goals as goal

pub returns-then-not-good_key : goal.returns-then-not-good_key
returns-then-not-good_key c = fresh_27 _ _ _ _ (sym c.key_length_good-good_key.ensures ∙ c.if-not-good_key.true)

pub returns-then-not-good_header : goal.returns-then-not-good_header
returns-then-not-good_header c =
    fresh_24 _ _ _ _ (sym c.key_length_good-good_key.ensures ∙ c.if-not-good_key.false) (sym c.header_told_good-good_header.ensures ∙ c.if-not-good_header.true)

pub returns-then-index-lt-MIN_BYTES : goal.returns-then-index-lt-MIN_BYTES
returns-then-index-lt-MIN_BYTES c =
    fresh_30 _ _ _ _ (sym c.key_length_good-good_key.ensures ∙ c.if-not-good_key.false)
    (sym c.header_told_good-good_header.ensures ∙ c.if-not-good_header.false) c.if-index-lt-MIN_BYTES.true

pub write_fresh-requires : goal.write_fresh-requires
write_fresh-requires c =
    let key = good-key-length _ (sym c.key_length_good-good_key.ensures ∙ c.if-not-good_key.false) in
    let told = both _ _ (sym c.header_told_good-good_header.ensures ∙ c.if-not-good_header.false) in
    (c.if-index-lt-MIN_BYTES.false, key.1, features-most _ told.1, expression-most _ told.0)

pub returns : goal.returns
returns c =
    fresh-made _ _ _ _ (sym c.key_length_good-good_key.ensures ∙ c.if-not-good_key.false)
    (sym c.header_told_good-good_header.ensures ∙ c.if-not-good_header.false) c.if-index-lt-MIN_BYTES.false c.write_fresh.ensures
