-- Laws: what the answers about a field say, and a field's bytes lie in the table. Assumes nothing.
use Rattle.std.specs.Prelude.{Ok, ℕ, ◌+◌, ◌-◌, ◌≤◌, ◌<◌, ◌≡◌, Bool, true, false, cond, List, [], ◌∷◌, length, eqb, leb, Err}
use Rattle.std.proofs.Common.{sym, ◌∙◌, arith, lit<, leb-true, eqb-true}
use Rattle.std.proofs.lemmas.Bool.{eqb-false, ne_eqb}
use Rattle.basis.specs.Tests.{either, both, impossible}
use Rattle.refusal.specs.CheckLaws.{first-none, first-both}
use Rattle.refusal.specs.Checks.{first_refusal}
use Rattle.dbf_table.specs.Table.{max_fields, descriptor, field_count, record_count, record_start, table_checks, table_refusal, shape_of, check_table}
use Rattle.dbf_table.specs.TableLaws.{layout, table-numbered, good_check, refused_check, good_then, refused_then}
use Rattle.dbf_table.specs.FormLaws.{field_form, form-some}
use Rattle.dbf_table.specs.RecordLaws.{descriptor-inside, field_inside, record_inside, record_positive}
use Rattle.dbf_table.specs.declared.Shape.{Shape}
use Rattle.dbf_field.specs.Field.{number_good, field_refusal, field_answer, place_refusal, PlaceGood, entry_of, place_at, PlaceInside, place_of, PlaceAnswer}
use Rattle.dbf_field.specs.declared.Place.{Place}
use Rattle.dbf_field.specs.Field.{Placed}

-- ---- one field

-- a number from 1 to the count
pub number-range : (number count : ℕ) → number_good number count ≡ true → (1 ≤ number) × (number ≤ count)
unfolding number_good
number-range number count h =
    let parts = both (leb 1 number) (leb number count) h in
    (leb-true 1 number parts.0, leb-true number count parts.1)

-- what `entry_at` asks of a field of a good table
pub entry-inside : (b : List ℕ) (j : ℕ) → table_refusal b ≡ 0 → j < field_count b → (j < max_fields) × (descriptor j + 32 ≤ length b)
entry-inside b j good l = let table = layout b good in (omega (arith, table.header.few), descriptor-inside b table j l)

-- in a good table the test of the field's number decides
pub field_checked : (b : List ℕ) (s : Shape) (field : ℕ) → check_table b ≡ Ok s → field_refusal b field ≡ cond (number_good field s.fields) 0 12
unfolding field_refusal first_refusal shape_of
field_checked b s field e = good_then b s ((number_good field (field_count b), 12) ∷ []) e ∙ rw (good_check b s e).1

-- without refusal the table is good and has the field
pub record FieldGood (b : List ℕ) (field : ℕ) : Type 0 where
  pub table : table_refusal b ≡ 0
  pub from : 1 ≤ field
  pub to : field ≤ field_count b

pub field_good : (b : List ℕ) (field : ℕ) → field_refusal b field ≡ 0 → FieldGood b field
unfolding field_refusal table_refusal
field_good b field e =
    let number : List (Bool × ℕ) = (number_good field (field_count b), 12) ∷ [] in
    let parts = first-both (table_checks b) number (table-numbered b) e in
    let held = first-none number (lit< tt, tt) parts.1 in
    let range = number-range field (field_count b) held.0 in
    record { table = parts.0; from = range.0; to = range.1 }

-- a table's refusal is the answer; in a good table it is 12, or the field's entry
pub field_unchecked : (b : List ℕ) (field n : ℕ) → check_table b ≡ Err n → field_answer b field ≡ Err n
unfolding field_answer field_refusal
field_unchecked b field n e = rw (refused_then b n ((number_good field (field_count b), 12) ∷ []) e, ne_eqb n 0 (refused_check b n e).1)

pub field_12 : (b : List ℕ) (s : Shape) (field : ℕ) → check_table b ≡ Ok s → number_good field s.fields ≡ false → field_answer b field ≡ Err 12
unfolding field_answer
field_12 b s field e bad = rw (field_checked b s field e, bad)

pub field_given : (b : List ℕ) (s : Shape) (field : ℕ) → check_table b ≡ Ok s → number_good field s.fields ≡ true
    → (field_refusal b field ≡ 0) × (field_answer b field ≡ Ok (entry_of b (field - 1)))
unfolding field_answer
field_given b s field e has =
    let none : field_refusal b field ≡ 0 = field_checked b s field e ∙ rw has in
    (none, rw none)

-- ---- a field of a record

pub place-checked : (b : List ℕ) (s : Shape) (number field : ℕ) → check_table b ≡ Ok s
    → place_refusal b number field ≡ cond (number_good number s.records) (cond (number_good field s.fields) 0 12) 11
unfolding place_refusal first_refusal shape_of
place-checked b s number field e =
    good_then b s ((number_good number (record_count b), 11) ∷ (number_good field (field_count b), 12) ∷ []) e ∙ rw (good_check b s e).1

pub place-good : (b : List ℕ) (number field : ℕ) → place_refusal b number field ≡ 0 → PlaceGood b number field
unfolding place_refusal table_refusal
place-good b number field e =
    let numbers : List (Bool × ℕ) = (number_good number (record_count b), 11) ∷ (number_good field (field_count b), 12) ∷ [] in
    let parts = first-both (table_checks b) numbers (table-numbered b) e in
    let held = first-none numbers (lit< tt, (lit< tt, tt)) parts.1 in
    let records = number-range number (record_count b) held.0 in
    let fields = number-range field (field_count b) held.1.0 in
    record { table = parts.0; record-from = records.0; record_to = records.1; field_from = fields.0; field_to = fields.1 }

-- a table's refusal is the answer; in a good table it is 11 or 12, or the field's place
pub place-unchecked : (b : List ℕ) (number field n : ℕ) → check_table b ≡ Err n → place_of b number field ≡ Err n
unfolding place_of place_refusal
place-unchecked b number field n e =
    rw (
      refused_then b n ((number_good number (record_count b), 11) ∷ (number_good field (field_count b), 12) ∷ []) e,
      ne_eqb n 0 (refused_check b n e).1,
    )

pub place_11 : (b : List ℕ) (s : Shape) (number field : ℕ) → check_table b ≡ Ok s → number_good number s.records ≡ false
    → place_of b number field ≡ Err 11
unfolding place_of
place_11 b s number field e bad = rw (place-checked b s number field e, bad)

pub place_12 : (b : List ℕ) (s : Shape) (number field : ℕ) → check_table b ≡ Ok s → number_good number s.records ≡ true
    → number_good field s.fields ≡ false → place_of b number field ≡ Err 12
unfolding place_of
place_12 b s number field e good bad = rw (place-checked b s number field e, good, bad)

pub place_given : (b : List ℕ) (s : Shape) (number field : ℕ) → check_table b ≡ Ok s → number_good number s.records ≡ true
    → number_good field s.fields ≡ true → (place_refusal b number field ≡ 0) × (place_of b number field ≡ Ok (place_at b number field))
unfolding place_of
place_given b s number field e good has =
    let none : place_refusal b number field ≡ 0 = place-checked b s number field e ∙ rw (good, has) in
    (none, rw none)

-- the record and the field lie in the table
pub mark-inside : (b : List ℕ) (number field : ℕ) → PlaceGood b number field → record_start b number < length b
unfolding record_start
mark-inside b number field good =
    let table = layout b good.table in
    omega (arith, record_inside b table (number - 1) (omega arith), record_positive b table)

pub place-within : (b : List ℕ) (number field : ℕ) (p : Place) → PlaceGood b number field → p ≡ place_at b number field → PlaceInside b p
unfolding place_at entry_of record_start
place-within b number field p good e =
    let table = layout b good.table in
    let within = record_inside b table (number - 1) (omega arith) in
    let field-within = field_inside b table (field - 1) (omega arith) in
    let some = form-some _ _ _ (field_form b table (field - 1) (omega arith)) in
    rw e (record { some = some; inside = omega arith })

-- what a caller learns from the answer's case
pub placed_at : (b : List ℕ) (number field : ℕ) (p : Place) → place_of b number field ≡ Ok p
    → (place_refusal b number field ≡ 0) × (p ≡ place_at b number field)
unfolding place_of
placed_at b number field p e =
    either (eqb (place_refusal b number field) 0)
    (λ z. let q : Ok (place_at b number field) ≡ Ok p = rw z at e in (eqb-true (place_refusal b number field) 0 z, cc))
    (λ z. let q : Err (place_refusal b number field) ≡ Ok p = rw z at e in impossible (cc))

pub placed-refused : (b : List ℕ) (number field n : ℕ) → place_of b number field ≡ Err n → (n ≡ place_refusal b number field) × (n ≡ 0 → ⊥)
unfolding place_of
placed-refused b number field n e =
    either (eqb (place_refusal b number field) 0)
    (λ z. let q : Ok (place_at b number field) ≡ Err n = rw z at e in impossible (cc))
    (λ z. let q : Err (place_refusal b number field) ≡ Err n = rw z at e in
    let s : n ≡ place_refusal b number field = cc in (s, λ w. eqb-false (place_refusal b number field) 0 z (sym s ∙ w)))

-- the case decides the number and the values
pub place-answer : (b : List ℕ) (number field : ℕ) (r : Placed) → r ≡ place_of b number field → PlaceAnswer b number field r
unfolding place_of
place-answer b number field r e =
    either (eqb (place_refusal b number field) 0)
    (λ z. record { case = e; code = rw (e, z, eqb-true (place_refusal b number field) 0 z); values = rw (e, z) })
    (λ z. record { case = e; code = rw (e, z); values = rw (e, z) })
