-- Rules: the calls over lent structs: the field list, "written into a list of field entries that the host lends", and the two walks, whose position "belongs to
-- the host and each call moves it on the spot".
use Rattle.std.specs.Prelude.{ℕ, zero, suc, List, [], ◌∷◌, ◌++◌, Bool, true, false, cond, length, set, eqb, leb, None, Some, Ok, Err}
use Rattle.refusal.specs.Checks.{first_refusal}
use Rattle.dbf_table.specs.Table.{field_count, table_checks}
use Rattle.dbf_field.specs.Field.{entry_of}
use Rattle.dbf_field.specs.declared.FieldEntry.{FieldEntry}
use Rattle.dbf_walk.specs.Walk.{Step, Walked, walk_step, live_step}
use Rattle.dbf_walk.specs.declared.Position.{Position}
use Rattle.dbf_calls.specs.declared.Plan.{Plan}
use Rattle.dbf_calls.specs.declared.LentStep.{LentStep}
use Rattle.dbf_calls.specs.declared.LentLiveStep.{LentLiveStep}

-- ---- the field list

-- "1 to 10 ... then ... 14": "lent field list shorter than f"
unfoldable pub listing_refusal : List ℕ → ℕ → ℕ
listing_refusal b room = first_refusal (table_checks b ++ ((leb (field_count b) room, 14) ∷ []))

-- the refusal or 0, and how many entries are written: none if it refuses
unfoldable pub plan_of : List ℕ → ℕ → Plan
plan_of b room = record {
  answer = listing_refusal b room;
  count = cond (eqb (listing_refusal b room) 0) (field_count b) 0;
}

-- the entries, with the first j overwritten by those of the first j fields; "entries past f stay"
unfoldable pub listed : List ℕ → ℕ → List FieldEntry → List FieldEntry
listed b zero entries = entries
listed b (suc j) entries = set (listed b j entries) j (entry_of b j)

-- the call's answer, and the entries after it
pub record Listing : Type 0 where
  pub answer : ℕ
  pub entries : List FieldEntry

unfoldable pub listing : List ℕ → List FieldEntry → Listing
listing b entries =
    let plan = plan_of b (length entries) in
    record { answer = plan.answer; entries = listed b plan.count entries }

-- ---- the walks

-- the number of the answer at the end of a walk
abbrev pub done_code : ℕ
done_code = 258

-- the number of an answer: 0 for a record, 258 at the end, or the refusal's
abbrev pub step_code : Step → ℕ
step_code (Ok (Some r)) = 0
step_code (Ok None) = done_code
step_code (Err n) = n

-- the record's number, or the number that was there
abbrev pub step_record : Step → ℕ → ℕ
step_record (Ok (Some r)) old = r.number
step_record (Ok None) old = old
step_record (Err n) old = old

-- "1 where it is deleted and 0 where it is not"
abbrev pub mark_number : Bool → ℕ
mark_number true = 1
mark_number false = 0

-- the record's mark, or the mark that was there
abbrev pub step_mark : Step → ℕ → ℕ
step_mark (Ok (Some r)) old = mark_number r.deleted
step_mark (Ok None) old = old
step_mark (Err n) old = old

-- what a step hands to C, with `number` and `mark` as those that were there
unfoldable pub lent_of : Walked → ℕ → ℕ → LentStep
lent_of walked number mark =
    let answer = walked.answer in
    record { answer = step_code answer; position = walked.position; number = step_record answer number; deleted = step_mark answer mark }

-- a step of the walk from a position
unfoldable pub walked_of : List ℕ → Position → ℕ → ℕ → LentStep
walked_of b position number mark = lent_of (walk_step b position) number mark

-- a step of the skipping walk: it hands out undeleted records alone, so it has no mark
unfoldable pub live_of : List ℕ → Position → ℕ → LentLiveStep
live_of b position number =
    let walked = live_step b position in
    record { answer = step_code walked.answer; position = walked.position; number = step_record walked.answer number }
