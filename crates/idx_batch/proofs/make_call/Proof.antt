-- `idx_batch::make_call` meets its contract: a whole call lies inside the list, and the call of its kind is the rule's. Assumes nothing.
use native.Mathlib.Omega.{arith}
use Rattle.idx_batch.specs.EncodingLaws.{Whole, whole}
use Rattle.idx_batch.specs.RunLaws.{lookup-made, removal_made, insertion-made}
use borrow.Author.Rules.{rules}
use Rattle.idx_batch.proofs.make_call.Statement.{statement}
use Rattle.idx_batch.proofs.make_call.Tie as tie

-- the places: back from the key's length to the start, and from each side of the kind's tests to the key's length
abbrev start : tie.After-load_le16 → tie.Start
start c = c.before.before.before

abbrev lookup-size : tie.Then-kind-eq0 → tie.After-load_le16
lookup-size c = c.before.before

abbrev number_size : tie.Else-kind-eq0 → tie.After-load_le16
number_size c = c.before.before

-- the call lies inside the list
inside : (c : tie.Start) → Whole c.args.calls.now c.args.at
inside c = whole _ _ c.requires

add-from : tie.Need-overflow_add-from
add-from c = let w = inside c.before.before in omega arith

add-load-le16 : tie.Need-overflow_add-at
add-load-le16 c = let w = inside c.before.before in omega arith

load-le16-requires : tie.Need-load_le16-requires
load-le16-requires c κs = let w = inside c.before.before in omega arith

cast-end : tie.Need-overflow_cast-end
cast-end c = search rules

add-end : tie.Need-overflow_add-end
add-end c = let w = inside (start c) in omega arith

byte-requires : tie.Need-byte-kind-requires
byte-requires c κs = let w = inside (start c) in omega arith

sub-lookup : tie.Need-slice_bounds-lookup-count
sub-lookup c = search rules

part-lookup-start : tie.Need-slice_bounds-lookup-start
part-lookup-start c = search rules

part-lookup-end : tie.Need-slice_bounds-lookup-end
part-lookup-end c = let w = inside (start (lookup-size c)) in omega arith

lookup-requires : tie.Need-lookup-requires
lookup-requires c κs = search rules

looked-up-requires : tie.Need-looked_up-requires
looked-up-requires c κs = search rules

same_length : tie.Need-shape_of-index-then-kind-eq0
same_length c = search rules

returns : tie.Need-returns-then-kind-eq0
returns c =
    let at-lookup = c.before in
    let at-if = at-lookup.before.before in
    let size = (lookup-size at-if).load_le16.ensures.0 in
    let kind = at-if.byte-kind.ensures.0 in
    lookup-made _ _ _ size kind at-if.if-kind-eq0.true at-lookup.lookup.ensures c.looked_up.ensures

load-le32-requires : tie.Need-load_le32-requires
load-le32-requires c κs =
    let w = inside (start (number_size c)) in
    omega (arith, c.byte-kind.ensures.0, c.if-kind-eq0.false)

sub-remove : tie.Need-slice_bounds-remove-count
sub-remove c = search rules

part-remove-start : tie.Need-slice_bounds-remove-start
part-remove-start c = search rules

part-remove-end : tie.Need-slice_bounds-remove-end
part-remove-end c = let w = inside (start (number_size c.before.before.before)) in omega arith

remove-requires : tie.Need-remove-requires
remove-requires c κs = search rules

changed-requires : tie.Need-changed-requires
changed-requires c κs = search rules

same-length-2 : tie.Need-shape_of-index-then-kind-eq2
same-length-2 c = search rules

returns-2 : tie.Need-returns-then-kind-eq2
returns-2 c =
    let at-remove = c.before.before.before in
    let at-if = at-remove.before.before.before in
    let at-number = at-if.before in
    let more = at-number.before in
    let size = (number_size more).load_le16.ensures.0 in
    let kind = more.byte-kind.ensures.0 in
    removal_made _ _ _ size kind at-if.if-kind-eq2.true at-number.load_le32.ensures at-remove.remove.ensures c.changed.ensures

sub-insert : tie.Need-slice_bounds-insert-count
sub-insert c = search rules

part-insert-start : tie.Need-slice_bounds-insert-start
part-insert-start c = search rules

part-insert-end : tie.Need-slice_bounds-insert-end
part-insert-end c = let w = inside (start (number_size c.before.before.before)) in omega arith

insert-requires : tie.Need-insert-requires
insert-requires c κs = search rules

changed-requires-2 : tie.Need-changed-requires-2
changed-requires-2 c κs = search rules

same-length-3 : tie.Need-shape_of-index
same-length-3 c = search rules

returns-3 : tie.Need-returns
returns-3 c =
    let at-insert = c.before.before.before in
    let at-if = at-insert.before.before.before in
    let at-number = at-if.before in
    let more = at-number.before in
    let size = (number_size more).load_le16.ensures.0 in
    let kind = more.byte-kind.ensures.0 in
    insertion-made _ _ _ size kind more.if-kind-eq0.false at-if.if-kind-eq2.false at-number.load_le32.ensures at-insert.insert.ensures c.changed-2.ensures

pub make_call_spec : {M : Type 1} → statement M
make_call_spec =
    tie.close
    (tie.spec add-from add-load-le16 load-le16-requires cast-end add-end byte-requires sub-lookup part-lookup-start part-lookup-end lookup-requires
    looked-up-requires same_length returns load-le32-requires sub-remove part-remove-start part-remove-end remove-requires changed-requires same-length-2
    returns-2 sub-insert part-insert-start part-insert-end insert-requires changed-requires-2 same-length-3 returns-3)
