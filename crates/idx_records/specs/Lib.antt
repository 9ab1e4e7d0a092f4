-- All records of a key. Rules are what a reader must believe; laws are proved.

-- Rules: the records of a key, and what the call writes and answers
pub mod Records
-- Steps: the records stored one after another
pub mod Gather
-- Laws: the loops over entries and leaves, by what is left to do
pub mod GatherLaws
-- Laws: the cases of the call
pub mod CallLaws
-- Laws: on a sound index each record of the key is listed once and none other, in order
pub mod ListLaws
