-- Laws: the parts of the calls over lent structs; entry j of the field list is the answer by value for field j + 1. Assumes nothing.
use Rattle.std.specs.Prelude.{ℕ, zero, suc, ◌+◌, ◌-◌, ◌≤◌, ◌<◌, ◌≡◌, refl, Bool, true, cond, List, [], ◌∷◌, length, get_or, set, replicate, eqb, leb, Err, Ok, None, Some}
use Rattle.std.proofs.Common.{sym, ap, subst, ◌∙◌, ⊎_elim, eq-or-lt_of_le, le_of_suc-le-suc, not-suc-le-zero, add-one, arith, get_or-set_same}
use Rattle.std.proofs.Common.{get_or-set_other, length-set, lit<, le-leb, leb-true, eqb-true, ne_eqb}
use Rattle.std.proofs.lemmas.Bool.{lt-leb}
use Rattle.basis.specs.Tests.{either}
use Rattle.refusal.specs.CheckLaws.{first-after, first-both, first-none}
use Rattle.refusal.specs.Checks.{first_refusal}
use Rattle.dbf_table.specs.Table.{max_fields, max_record, field_offset, field_count, table_checks, table_refusal, check_table}
use Rattle.dbf_table.specs.TableLaws.{layout, table-numbered, good_shape, good_then, refused_then, refused_check}
use Rattle.dbf_table.specs.RecordLaws.{offset-first, offset-next, field_inside}
use Rattle.dbf_table.specs.declared.Shape.{Shape}
use Rattle.dbf_field.specs.Field.{entry_of, field_refusal, field_answer, number_good}
use Rattle.dbf_field.specs.declared.FieldEntry.{FieldEntry}
use Rattle.dbf_walk.specs.Walk.{Step, Walked, walk_step, live_step}
use Rattle.dbf_walk.specs.declared.Position.{Position}
use Rattle.dbf_calls.specs.declared.Plan.{Plan}
use Rattle.dbf_calls.specs.declared.LentStep.{LentStep}
use Rattle.dbf_calls.specs.declared.LentLiveStep.{LentLiveStep}
use Rattle.dbf_calls.specs.Lent.{listing_refusal, plan_of, listed, Listing, listing, step_code, step_record, step_mark, lent_of, walked_of, live_of}

-- ---- the field list's plan

-- the plan that answers `answer` and writes `count` entries
abbrev plan_to : ℕ → ℕ → Plan
plan_to answer count = record { answer = answer; count = count }

-- the plan by the case of the table's check, and of the test of the room
pub plan_refused : (b : List ℕ) (room n : ℕ) → check_table b ≡ Err n → plan_to n 0 ≡ plan_of b room
unfolding plan_of listing_refusal
plan_refused b room n e =
    let refused : first_refusal _ ≡ n = refused_then b n ((leb (field_count b) room, 14) ∷ []) e in
    rw (refused, ne_eqb n 0 (refused_check b n e).1)

listing-checked : (b : List ℕ) (s : Shape) (room : ℕ) → check_table b ≡ Ok s → listing_refusal b room ≡ cond (leb s.fields room) 0 14
unfolding listing_refusal first_refusal
listing-checked b s room e = good_then b s ((leb (field_count b) room, 14) ∷ []) e ∙ rw (good_shape b s e).fields

pub plan_short : (b : List ℕ) (s : Shape) (room : ℕ) → check_table b ≡ Ok s → room < s.fields → plan_to 14 0 ≡ plan_of b room
unfolding plan_of
plan_short b s room e short = rw (listing-checked b s room e, lt-leb _ _ short)

pub plan_good : (b : List ℕ) (s : Shape) (room : ℕ) → check_table b ≡ Ok s → s.fields ≤ room → plan_to 0 s.fields ≡ plan_of b room
unfolding plan_of
plan_good b s room e enough = rw (listing-checked b s room e, le-leb _ _ enough, (good_shape b s e).fields)

-- without refusal the table is good and its fields have room
record ListingGood (b : List ℕ) (room : ℕ) : Type 0 where
  pub table : table_refusal b ≡ 0
  pub enough : field_count b ≤ room

listing-good : (b : List ℕ) (room : ℕ) → listing_refusal b room ≡ 0 → ListingGood b room
unfolding listing_refusal table_refusal
listing-good b room e =
    let parts = first-both (table_checks b) ((leb (field_count b) room, 14) ∷ []) (table-numbered b) e in
    let held = first-none ((leb (field_count b) room, 14) ∷ []) (lit< tt, tt) parts.1 in
    record { table = parts.0; enough = leb-true _ _ held.0 }

-- `count` entries have room, and each is that of a field of a good table
pub record CountFits (b : List ℕ) (room count : ℕ) : Type 0 where
  pub few : count ≤ max_fields
  pub within : (j : ℕ) → j < count → (table_refusal b ≡ 0) × (j < field_count b)
  pub enough : count ≤ room

pub plan_fits : (b : List ℕ) (room : ℕ) → CountFits b room (plan_of b room).count
unfolding plan_of
plan_fits b room =
    either (eqb (listing_refusal b room) 0)
    (λ none.
    let good = listing-good b room (eqb-true _ _ none) in
    let table = layout b good.table in
    rw none (record { few = table.header.few; within = λ j l. (good.table, l); enough = good.enough }))
    (λ some. rw some (record { few = omega arith; within = λ j l. absurd (not-suc-le-zero l); enough = omega arith }))

-- ---- the entries

-- the deletion byte as an entry, "counted as offset 0"
unfoldable pub deletion_entry : FieldEntry
deletion_entry = record { name = replicate 11 0; kind = 0; length = 1; decimals = 0; offset = 0 }

-- the entry before that of field j: of the deletion byte, or of the field before it
unfoldable pub last_entry : List ℕ → ℕ → FieldEntry
last_entry b zero = deletion_entry
last_entry b (suc j) = entry_of b j

-- field j starts where it ends
pub last_end : (b : List ℕ) (j : ℕ) → (last_entry b j).offset + (last_entry b j).length ≡ field_offset b j
unfolding last_entry deletion_entry entry_of
last_end b zero = sym (offset-first b)
last_end b (suc j) = sym (rw add-one at (offset-next b j))

-- so the last entry says where field j of a good table starts, a place of a record
pub record Starts (b : List ℕ) (j : ℕ) (last : FieldEntry) : Type 0 where
  pub place : last.offset + last.length ≡ field_offset b j
  pub small : last.offset + last.length ≤ max_record

pub last-starts : (b : List ℕ) (j : ℕ) (last : FieldEntry) → table_refusal b ≡ 0 → j < field_count b → last ≡ last_entry b j → Starts b j last
last-starts b j last good l is =
    let table = layout b good in
    let place : last.offset + last.length ≡ field_offset b j = ap (λ (e : FieldEntry). e.offset + e.length) is ∙ last_end b j in
    record { place = place; small = omega (arith, place, table.small, field_inside b table j l) }

pub last_none : (b : List ℕ) → deletion_entry ≡ last_entry b 0
unfolding last_entry
last_none b = refl

pub last-next : (b : List ℕ) (j : ℕ) → entry_of b j ≡ last_entry b (j + 1)
unfolding last_entry
last-next b j = rw (add-one j)

-- the entries stay as many as were lent
pub listed-length : (b : List ℕ) (count : ℕ) (entries : List FieldEntry) → length (listed b count entries) ≡ length entries
unfolding listed
listed-length b zero entries = refl
listed-length b (suc j) entries = length-set (listed b j entries) j (entry_of b j) ∙ listed-length b j entries

-- how the loop begins, and goes on
pub listed-none : (b : List ℕ) (entries : List FieldEntry) → entries ≡ listed b 0 entries
unfolding listed
listed-none b entries = refl

pub listed_more : (b : List ℕ) (j : ℕ) (entries : List FieldEntry) → set (listed b j entries) j (entry_of b j) ≡ listed b (j + 1) entries
unfolding listed
listed_more b j entries = rw (add-one j)

-- each entry below the count is its field's
listed_at : (b : List ℕ) (count j : ℕ) (entries : List FieldEntry) (none : FieldEntry) → j < count → count ≤ length entries
    → get_or (listed b count entries) j none ≡ entry_of b j
unfolding listed
listed_at b zero j entries none l h = absurd (not-suc-le-zero l)
listed_at b (suc count) j entries none l h =
    ⊎_elim
    (λ e. subst (λ (i : ℕ). get_or (set (listed b count entries) count (entry_of b count)) i none ≡ entry_of b i) (sym e)
    (get_or-set_same (listed b count entries) count (entry_of b count) none (subst (λ (m : ℕ). count < m) (sym (listed-length b count entries)) h)))
    (λ less. get_or-set_other (listed b count entries) count j (entry_of b count) none (λ e. omega arith) ∙ listed_at b count j entries none less (omega arith))
    (eq-or-lt_of_le (le_of_suc-le-suc l))

-- the entries past the count stay
pub listed_past : (b : List ℕ) (count j : ℕ) (entries : List FieldEntry) (none : FieldEntry) → count ≤ j
    → get_or (listed b count entries) j none ≡ get_or entries j none
unfolding listed
listed_past b zero j entries none l = refl
listed_past b (suc count) j entries none l =
    get_or-set_other (listed b count entries) count j (entry_of b count) none (λ e. omega arith) ∙ listed_past b count j entries none (omega arith)

-- ---- the field list

-- what the loop leaves after the planned number of turns
pub listing_is : (b : List ℕ) (entries : List FieldEntry) (j : ℕ) → j ≡ (plan_of b (length entries)).count
    → listing b entries ≡ record { answer = (plan_of b (length entries)).answer; entries = listed b j entries }
unfolding listing
listing_is b entries j e = rw e

-- a refusal keeps every entry
pub listing-refused : (b : List ℕ) (entries : List FieldEntry) → (listing_refusal b (length entries) ≡ 0 → ⊥)
    → listing b entries ≡ record { answer = listing_refusal b (length entries); entries = entries }
unfolding listing plan_of listed
listing-refused b entries e = rw (ne_eqb (listing_refusal b (length entries)) 0 e)

-- without a refusal the first f entries are the fields'
listing-done : (b : List ℕ) (entries : List FieldEntry) → listing_refusal b (length entries) ≡ 0
    → listing b entries ≡ record { answer = 0; entries = listed b (field_count b) entries }
unfolding listing plan_of
listing-done b entries e = rw e

-- "The same answers are first to be had field by field, by value": entry j, from 0, is the answer for field number j + 1
pub listing-entry : (b : List ℕ) (entries : List FieldEntry) (j : ℕ) (none : FieldEntry) → listing_refusal b (length entries) ≡ 0 → j < field_count b
    → field_answer b (j + 1) ≡ Ok (get_or (listing b entries).entries j none)
unfolding field_answer field_refusal table_refusal number_good first_refusal
listing-entry b entries j none e l =
    let good = listing-good b (length entries) e in
    let low : leb 1 (j + 1) ≡ true = le-leb 1 (j + 1) (omega arith) in
    let high : leb (j + 1) (field_count b) ≡ true = le-leb (j + 1) (field_count b) (omega arith) in
    let checks : List (Bool × ℕ) = (number_good (j + 1) (field_count b), 12) ∷ [] in
    let checked : field_refusal b (j + 1) ≡ 0 = first-after (table_checks b) checks (table-numbered b) good.table ∙ rw (low, high) in
    let same : j + 1 - 1 ≡ j = omega arith in
    let entry : get_or (listing b entries).entries j none ≡ entry_of b j =
    ap (λ (x : Listing). get_or x.entries j none) (listing-done b entries e) ∙ listed_at b (field_count b) j entries none l good.enough in
    rw (checked, same, entry)

-- ---- the walks

-- a step by the case of its answer
pub lent_as : (walked : Walked) (number mark : ℕ) (answer : Step) → walked.answer ≡ answer
    → ◌≡◌ {A = LentStep} (record { answer = step_code answer; position = walked.position; number = step_record answer number; deleted = step_mark answer mark })
    (lent_of walked number mark)
unfolding lent_of
lent_as walked number mark answer is = rw is

-- a step of the skipping walk has all but the mark
pub live_as : (b : List ℕ) (position : Position) (number : ℕ) (walked : Walked) (lent : LentStep) → walked ≡ live_step b position
    → lent ≡ lent_of walked number 0
    → ◌≡◌ {A = LentLiveStep} (record { answer = lent.answer; position = lent.position; number = lent.number }) (live_of b position number)
unfolding live_of lent_of
live_as b position number walked lent e is = rw (is, e)

-- without a record the number and the mark stay
number-kept : (answer : Step) (old : ℕ) → (step_code answer ≡ 0 → ⊥) → step_record answer old ≡ old
number-kept (Ok (Some r)) old other = absurd (other refl)
number-kept (Ok None) old other = refl
number-kept (Err n) old other = refl

mark-kept : (answer : Step) (old : ℕ) → (step_code answer ≡ 0 → ⊥) → step_mark answer old ≡ old
mark-kept (Ok (Some r)) old other = absurd (other refl)
mark-kept (Ok None) old other = refl
mark-kept (Err n) old other = refl

pub walked-kept : (b : List ℕ) (position : Position) (number mark : ℕ) → ((walked_of b position number mark).answer ≡ 0 → ⊥)
    → ((walked_of b position number mark).number ≡ number) × ((walked_of b position number mark).deleted ≡ mark)
unfolding walked_of lent_of
walked-kept b position number mark other = (number-kept (walk_step b position).answer number other, mark-kept (walk_step b position).answer mark other)

pub live_kept : (b : List ℕ) (position : Position) (number : ℕ) → ((live_of b position number).answer ≡ 0 → ⊥) → (live_of b position number).number ≡ number
unfolding live_of
live_kept b position number other = number-kept (live_step b position).answer number other
