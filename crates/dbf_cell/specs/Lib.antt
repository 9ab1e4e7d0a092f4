-- Reading one field of one record, in the order in which its parts rest on one another. Rules are what a reader must believe; laws are proved.

-- Rules: the checks of a call, and what it answers for an N, D, L, C and M field
pub mod Cell
-- Rules: the number of each answer, and the refusal of a numeric text
pub mod Codes
-- Laws: what a call reads once no check refuses; every part handed out lies in its file
pub mod CellLaws
-- Laws: a C field's answer is the table's alone; no refusal has the number of a value or of an empty field
pub mod AnswerLaws
-- Laws: fields of deleted records are read like others
pub mod MarkLaws
