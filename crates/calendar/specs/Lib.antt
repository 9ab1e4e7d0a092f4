-- The calendar, and the text of a D field.

-- Rules: leap years, month lengths, real days
pub mod Calendar
-- Rules: what the text of a D field says
pub mod DateText
-- Laws: of leap years, month lengths and days
pub mod CalendarLaws
-- Laws: of the text of a D field: its cases and parts, one text for a day and one day for a text
pub mod DateLaws
