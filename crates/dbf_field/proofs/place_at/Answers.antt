-- The record and the field lie in the table.
use Rattle.std.proofs.Common.{◌≡◌, ℕ, List, arith}
use Rattle.dbf_table.specs.TableLaws.{layout}
use Rattle.dbf_table.specs.Table.{record_start, deletion_byte}
use Rattle.dbf_field.specs.declared.Place.{Place}
use Rattle.dbf_field.specs.Field.{PlaceGood, place_at, PlaceInside}
use Rattle.dbf_field.specs.FieldLaws.{entry-inside, mark-inside, place-within}
use Rattle.dbf_field.proofs.place_at.Goals as goal

-- the answer is the place, and lies in the table
answered : (b : List ℕ) (number field : ℕ) (p : Place) → PlaceGood b number field → p ≡ place_at b number field
    → (p ≡ place_at b number field) × PlaceInside b p
answered b number field p good e = (e, place-within b number field p good e)

pub records_end-start-requires : goal.records_end-start-requires
records_end-start-requires c = (layout _ c.requires.table).header.long

pub entry_at-entry-requires : goal.entry_at-entry-requires
entry_at-entry-requires c =
    let good = c.requires in
    entry-inside _ _ good.table (omega (arith, good.field_to, good.field_from))

pub byte-requires : goal.byte-requires
unfolding record_start
byte-requires c = omega (arith, mark-inside _ _ _ c.requires, c.records_end-start.ensures.0)

pub returns : goal.returns
unfolding place_at record_start deletion_byte
returns c = answered _ _ _ _ c.requires (rw (c.byte.ensures.0, c.entry_at-entry.ensures, c.records_end-start.ensures.0))
