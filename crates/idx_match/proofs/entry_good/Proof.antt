-- `idx_match::entry_good` meets its contract: the record's number is tested before its field is read, which then lies in the table.
-- Assumes nothing.
use Prim.Native.Nat.{◌+◌, ◌≤◌}
use mathlib.Core.Path.{◌≡◌}
use mathlib.Core.Bool.{true}
use native.Mathlib.Omega.{arith}
use lib.ListN.{length}
use Rattle.basis.specs.Tests.{passed, failed}
use Rattle.dbf_field.specs.Field.{number_good}
use Rattle.dbf_field.specs.FieldLaws.{number-range}
use Rattle.idx_match.specs.StepLaws.{entry-outside, field_inside, field-length, entry_compared}
use borrow.Author.Rules.{rules}
use Rattle.idx_match.proofs.entry_good.Statement.{statement}
use Rattle.idx_match.proofs.entry_good.Tie as tie

record-number-requires : tie.Need-record_number-number-requires
record-number-requires c κs = search rules

cast-number-good : tie.Need-overflow_cast-number
cast-number-good c = search rules

cast-number-good-2 : tie.Need-overflow_cast-column
cast-number-good-2 c = search rules

number-good-requires : tie.Need-number_good-requires
number-good-requires c κs = search rules

returns : tie.Need-returns-then-not-number_good
returns c =
    let tested = c.before in
    let numbered = tested.before.before in
    let start = numbered.before.before.before in
    entry-outside _ start.args.column numbered.record_number-number.result.0 _ _ _ numbered.record_number-number.ensures
    (failed tested.number_good.ensures c.if-not-number_good.true-raw)

-- the places before the test of the number
abbrev numbered : tie.Else-not-number_good → tie.After-record_number-number
numbered c = c.before.before.before

abbrev start : tie.Else-not-number_good → tie.Start
start c = (numbered c).before.before.before

-- past the test the number is a record's
number : (c : tie.Else-not-number_good) → number_good (numbered c).record_number-number.result.0 (start c).args.column.records ≡ true
number c = passed c.number_good.ensures c.if-not-number_good.false-raw

-- and its field lies in the table
inside : (c : tie.After-records_end) → let args = (start c.before).args in
    c.records_end.result + args.column.offset + args.column.length ≤ length args.table.now
inside c =
    let begun = start c.before in
    field_inside _ begun.args.column _ _ (number c.before) begun.requires.0 c.records_end.ensures.0

sub-records-end : tie.Need-overflow_sub-number
sub-records-end c = omega (arith, (number-range _ _ (number c)).0)

records-end-requires : tie.Need-records_end-requires
records-end-requires c κs = search rules

add_start : tie.Need-overflow_add-start
add_start c = omega (arith, inside c.before)

add-end : tie.Need-overflow_add-end
add-end c = omega (arith, inside c.before.before)

sub-compare-entry : tie.Need-slice_bounds-compare_entry-count
sub-compare-entry c = search rules

part-compare-entry-start : tie.Need-slice_bounds-compare_entry-start
part-compare-entry-start c = search rules

part-compare-entry-end : tie.Need-slice_bounds-compare_entry-end
part-compare-entry-end c = omega (arith, inside c.before.before)

compare-entry-requires : tie.Need-compare_entry-requires
compare-entry-requires c κs =
    let ended = c.before.before.before in
    let begun = start ended.before in
    rw (field-length _ begun.args.column _ _ (number ended.before) begun.requires.0 ended.records_end.ensures.0) begun.requires.1

is-equal-requires : tie.Need-is_eq-requires
is-equal-requires c κs = search rules

returns-2 : tie.Need-returns
returns-2 c =
    let compared = c.before in
    let ended = compared.before.before.before.before in
    let begun = start ended.before in
    entry_compared _ begun.args.column _ _ (number ended.before) begun.requires.0 ended.records_end.ensures.0 _ _ _ _ _
    (numbered ended.before).record_number-number.ensures compared.compare_entry.ensures c.is_eq.ensures

pub entry_good_spec : {M : Type 1} → statement M
entry_good_spec =
    tie.close
    (tie.spec record-number-requires cast-number-good cast-number-good-2 number-good-requires returns sub-records-end records-end-requires add_start
    add-end sub-compare-entry part-compare-entry-start part-compare-entry-end compare-entry-requires is-equal-requires returns-2)
