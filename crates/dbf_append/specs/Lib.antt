-- Writing to a table: a record more at its end, another update date, and the length that a file is shortened to.

-- Rules: the refusals of an append in their order, its two stores, and the buffer that they leave
pub mod Append
-- Rules: setting the update date
pub mod UpdateDate
-- Rules: the length that a table's file is shortened to after a power loss
pub mod Extent
-- Laws: the code's tests meet the refusals, and its stores are the rule's
pub mod CheckLaws
-- Laws: the checks of a table's form are its checks but the last
pub mod ExtentLaws
-- Laws: a table's form is good exactly by byte 0 and the header from byte 8 on
pub mod FormLaws
-- Laws: a file that begins with a table, shortened by its own count
pub mod ImageLaws
-- Laws: the crash law
pub mod CrashLaws
-- Laws: a table that was written to reads as before
pub mod ReadLaws
-- Laws: after an append the table has one record more, which reads as the bytes given
pub mod NewTableLaws
-- Laws: a table with a new update date is as before otherwise
pub mod DateLaws
-- Laws: a record with a comma in numeric text is never written
pub mod CommaLaws
