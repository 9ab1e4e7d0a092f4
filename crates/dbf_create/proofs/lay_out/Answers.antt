-- The date, the count, and then the table that was made in the room.
use Rattle.std.proofs.Common.{◌≡◌, ◌∙◌, ℕ, true, sym, arith}
use Rattle.dbf_table.specs.Table.{storable_date}
use Rattle.dbf_table.specs.DateLaws.{storable}
use Rattle.dbf_create.specs.Laying.{room_length, count_good}
use Rattle.dbf_create.specs.LayingLaws.{count-range, Layable, lay_3, lay_4, made-length, lay_made}
use Rattle.dbf_create.proofs.lay_out.Goals as goal

-- what the table is made from: a date and a count that passed their tests
ready : (room count year month day : ℕ) → true ≡ storable_date year month day → true ≡ count_good count → room ≡ room_length
    → Layable room count year month day
ready room count year month day dated counted long =
    let range = count-range _ (sym counted) in
    record { date = storable _ _ _ (sym dated); some = range.0; few = range.1; room = omega (arith, range.1, long) }

pub returns-then-not-storable_date : goal.returns-then-not-storable_date
returns-then-not-storable_date c = lay_3 _ _ _ _ _ _ (sym c.if-not-storable_date.ensures)

pub returns-then-not-count_good : goal.returns-then-not-count_good
returns-then-not-count_good c = lay_4 _ _ _ _ _ _ (sym c.if-not-storable_date.ensures) (sym c.if-not-count_good.ensures)

pub write_table-requires : goal.write_table-requires
write_table-requires c = ready _ _ _ _ _ c.if-not-storable_date.ensures c.if-not-count_good.ensures c.requires

pub lay_table-requires : goal.lay_table-requires
lay_table-requires c =
    made-length _ _ _ _ _ _ (ready _ _ _ _ _ c.if-not-storable_date.ensures c.if-not-count_good.ensures c.requires) c.write_table.ensures.bytes

pub returns : goal.returns
returns c =
    let made = c.write_table.ensures in
    let layable = ready _ _ _ _ _ c.if-not-storable_date.ensures c.if-not-count_good.ensures c.requires in
    lay_made _ _ _ _ _ _ layable made.bytes _ (sym c.if-not-storable_date.ensures) (sym c.if-not-count_good.ensures) made.small ∙ c.lay_table.ensures
