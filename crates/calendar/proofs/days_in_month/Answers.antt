-- A year's row is 0 or 1, and the code's rows are the rule's.
use Rattle.calendar.specs.Calendar.{month_lengths, days_in_month}
use Rattle.calendar.specs.CalendarLaws.{flag_row}
use Rattle.calendar.proofs.days_in_month.Goals as goal

pub returns : goal.returns
unfolding days_in_month month_lengths
returns c = rw (c.from.ensures, c.from-row.ensures, flag_row _ _ c.is_leap.ensures)
