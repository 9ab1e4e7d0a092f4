-- The dilution sheet, in the order in which its parts rest on one another. Rules are what a reader must believe; laws are proved.

-- Rules: a text that is written into a buffer, as far as there is room
pub mod Output
-- Rules: the four numbers of the input
pub mod Input
-- Rules: what is wrong with an input that is 40
pub mod Fault
-- Rules: the sheet's lines
pub mod Sheet
-- Rules: how many lines a sheet has, and how many are refusals
pub mod Tally
-- Laws: texts that are written one after another
pub mod OutputLaws
-- Laws: how the code reads a line of the input
pub mod InputLaws
-- Laws: how the code finds what is wrong with an input
pub mod FaultLaws
-- Laws: a number's decimal text; the lines of the records, one after another
pub mod SheetLaws
-- Laws: how long a sheet's text is at most
pub mod LengthLaws
-- Laws: how the code counts the lines and the refusals
pub mod TallyLaws
