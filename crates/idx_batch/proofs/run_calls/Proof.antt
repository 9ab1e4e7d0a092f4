-- `idx_batch::run_calls` meets its contract. The loop's invariant: what the rule leaves is what the calls still to be made leave of the buffer and the answers
-- as they are. The measure is the rest of the list's bytes. Demand 3 follows, since the elements of lent slices are bytes. Assumes nothing.
use Prim.Native.Nat.{ℕ, ◌-◌, ◌≤◌, ◌*◌}
use mathlib.Core.Path.{◌≡◌}
use mathlib.Core.Bool.{true}
use mathlib.Core.List.{List}
use native.Mathlib.Omega.{arith}
use lib.ListN.{length}
use Rattle.idx_batch.specs.Encoding.{is_call}
use Rattle.idx_batch.specs.EncodingLaws.{whole}
use Rattle.idx_batch.specs.Run.{answer_size}
use Rattle.idx_batch.specs.RunLaws.{turn_taken, Going, going_first, going_on, going_ends, sound-run-kept}
use Rattle.idx_batch.proofs.run_calls.Statement.{statement}
use Rattle.idx_batch.proofs.run_calls.Tie as tie

abbrev invariant-loop : tie.invariant-loop-index
invariant-loop index₀ calls answers₀ at₀ made₀ index answers at made = Going index₀ calls answers₀ index answers at made

abbrev decreases-loop : tie.decreases-loop-index
decreases-loop index₀ calls answers₀ at₀ made₀ index answers at made = length calls - at

-- what a turn begins with: a whole call, and room for its answer
pub record Turn (calls answers : List ℕ) (at made : ℕ) : Type 0 where
  pub call : is_call calls at ≡ true
  pub room : answer_size ≤ length answers - answer_size * made

-- the places: back from the loop to the start, from the answer's store to the test that the turn began with, and from the turn's end to that store
abbrev start : tie.At-loop-index invariant-loop decreases-loop → tie.Start invariant-loop decreases-loop
start c = c.before.before.before.before

abbrev at_test : tie.After-write_reply-arg-1 invariant-loop decreases-loop → tie.In-loop-index invariant-loop decreases-loop
at_test c = let at-make = c.before.before.before in at-make.before.before

abbrev at-write : tie.After-call_end-at invariant-loop decreases-loop → tie.After-write_reply-arg-1 invariant-loop decreases-loop
at-write c = c.before.before.before.before

turn : (c : tie.In-loop-index invariant-loop decreases-loop)
    → let at-loop = c.before.before in
    Turn (start at-loop).args.calls.now at-loop.loop-index.answers at-loop.loop-index.at at-loop.loop-index.made
turn c = let t = turn_taken _ _ _ c.goes_on.ensures c.loop-index-test.true in record { call = t.0; room = t.1 }

loop-holds : tie.Need-loop-index-init invariant-loop decreases-loop
loop-holds c = going_first _ _ _

mul-goes-on : tie.Need-overflow_mul-made invariant-loop decreases-loop
mul-goes-on c = omega arith

sub-goes-on : tie.Need-overflow_sub-answers invariant-loop decreases-loop
sub-goes-on c = omega arith

goes-on-requires : tie.Need-goes_on-requires invariant-loop decreases-loop
goes-on-requires c κs = c.loop-index.invariant.inside

make-call-requires : tie.Need-make_call-reply-requires invariant-loop decreases-loop
make-call-requires c κs = (turn c.before).call

mul-write-reply : tie.Need-overflow_mul-made-in-loop-index invariant-loop decreases-loop
mul-write-reply c = omega (arith, (turn (at_test c)).room)

write-reply-requires : tie.Need-write_reply-requires invariant-loop decreases-loop
write-reply-requires c κs = omega (arith, (turn (at_test c)).room)

call-end-requires : tie.Need-call_end-at-requires invariant-loop decreases-loop
call-end-requires c κs = (whole _ _ (turn (at_test c.before.before.before)).call).head

add-made : tie.Need-overflow_add-made invariant-loop decreases-loop
add-made c = let t = turn (at_test (at-write c)) in omega arith

loop-less : tie.Need-loop-index-smaller invariant-loop decreases-loop
loop-less c = let w = whole _ _ (turn (at_test (at-write c))).call in omega arith

loop-again : tie.Need-loop-index-preserved invariant-loop decreases-loop
loop-again c =
    let written = c.write_reply.ensures in
    let called = (at-write c).make_call-reply in
    let test = at_test (at-write c) in
    let t = turn test in
    rw c.call_end-at.ensures
    (going_on _ _ _ _ _ _ _ test.loop-index.invariant t.call t.room called.auto.index called.ensures.0 called.ensures.1 written)

same_length : tie.Need-shape_of-index invariant-loop decreases-loop
same_length c = c.loop-index.invariant.same

same-length-2 : tie.Need-shape_of-answers invariant-loop decreases-loop
same-length-2 c = c.loop-index.invariant.long

returns : tie.Need-returns invariant-loop decreases-loop
returns c =
    let at-loop = c.before.before in
    let at-calls = at-loop.before.before in
    let at-index = at-calls.before in
    let ran = going_ends _ _ _ _ _ _ _ at-loop.loop-index.invariant c.goes_on.ensures c.loop-index-test.false in
    (ran, sound-run-kept _ _ _ (λ i. (at-index.slice_known-1.given i).fits) (λ i. (at-calls.shared_slice_known-1.given i).fits) ran)

pub run_calls_spec : {M : Type 1} → statement M
run_calls_spec =
    tie.close
    (tie.spec invariant-loop decreases-loop loop-holds mul-goes-on sub-goes-on goes-on-requires make-call-requires mul-write-reply write-reply-requires
    call-end-requires add-made loop-less loop-again same_length same-length-2 returns)
