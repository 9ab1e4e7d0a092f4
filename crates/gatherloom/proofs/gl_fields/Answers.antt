-- `gl_fields`: a good plan has as many fields as entries are lent, and each turn lists one field more. Assumes nothing.
use Rattle.std.proofs.Common.{◌∙◌, ◌≡◌, ℕ, List, arith}
use Rattle.dbf_calls.specs.declared.Plan.{Plan}
use Rattle.dbf_calls.specs.Lent.{plan_of}
use Rattle.dbf_calls.specs.LentLaws.{CountFits, plan_fits, listed-none, listed_more, listing_is, last_none, last-next}
use Rattle.gatherloom.proofs.gl_fields.Goals as goal

-- what the plan says of a turn
within_plan : (table : List ℕ) (room : ℕ) (plan : Plan) → plan ≡ plan_of table room → CountFits table room plan.count
within_plan table room plan e = rw e (plan_fits table room)

pub loop-j-init : goal.loop-j-init
loop-j-init c = record {
  last = c.deletion_entry-last.ensures ∙ last_none c.args.table.now;
  entries = listed-none c.args.table.now c.args.entries.now;
}

pub next_entry-last-requires : goal.next_entry-last-requires
next_entry-last-requires c =
    let fits = within_plan _ _ _ c.listing_plan-plan.ensures in
    let held = fits.within c.loop-j.j c.loop-j-test.true in
    (held.0, held.1, c.loop-j.invariant.last)

pub offset_bounds-entries-j : goal.offset_bounds-entries-j
offset_bounds-entries-j c = record { fits = omega (arith, c.loop-j-test.true, (within_plan _ _ _ c.listing_plan-plan.ensures).few) }

pub bounds-entries-j : goal.bounds-entries-j
bounds-entries-j c = omega (arith, c.loop-j-test.true, (within_plan _ _ _ c.listing_plan-plan.ensures).enough, c.loop-j.auto.entries)

pub loop-j-preserved : goal.loop-j-preserved
loop-j-preserved c = record {
  last = c.next_entry-last.ensures ∙ last-next c.args.table.now c.loop-j.j;
  entries = rw (c.loop-j.invariant.entries, c.next_entry-last.ensures) (listed_more c.args.table.now c.loop-j.j c.args.entries.now);
}

pub returns : goal.returns
returns c =
    let planned : c.loop-j.j ≡ c.listing_plan-plan.result.count = omega (arith, c.loop-j.auto.j-end) in
    rw (c.loop-j.invariant.entries, c.listing_plan-plan.ensures)
    (listing_is c.args.table.now c.args.entries.now c.loop-j.j (rw c.listing_plan-plan.ensures at planned))
