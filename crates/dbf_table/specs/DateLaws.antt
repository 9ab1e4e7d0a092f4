-- Laws: what holds of a date that the header can store. Cited by the calls that lay a table out and set its date. Assumes nothing.
use Rattle.std.specs.Prelude.{ℕ, ◌≤◌, ◌≡◌, true, ◌&&◌, leb}
use Rattle.std.proofs.Common.{leb-true}
use Rattle.basis.specs.Tests.{both}
use Rattle.calendar.specs.Calendar.{is_date}
use Rattle.calendar.specs.CalendarLaws.{date-range}
use Rattle.dbf_table.specs.Table.{first_year, last_year, storable_date}

pub record StorableDate (year month day : ℕ) : Type 0 where
  pub year_from : first_year ≤ year
  pub year_to : year ≤ last_year
  pub month_to : month ≤ 12
  pub day_to : day ≤ 31
  pub date : is_date year month day ≡ true

pub storable : (year month day : ℕ) → storable_date year month day ≡ true → StorableDate year month day
unfolding storable_date
storable year month day e =
    let parts = both (leb first_year year && leb year last_year) (is_date year month day) e in
    let years = both (leb first_year year) (leb year last_year) parts.0 in
    let range = date-range year month day parts.1 in
    record {
      year_from = leb-true first_year year years.0;
      year_to = leb-true year last_year years.1;
      month_to = range.month_to;
      day_to = range.day_31;
      date = parts.1;
    }
