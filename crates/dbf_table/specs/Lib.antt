-- A table's header: its numbers and its limits.

-- Rules: a test of all numbers or some number below a bound, and a sum over them
pub mod Range
-- Rules: what the header says, refusals 1 to 10 in their order, records and deletion bytes
pub mod Table
-- Rules: the types of fields and their letters
pub mod FieldTypes
-- Laws: a loop over the numbers below a bound meets the rule
pub mod RangeLaws
-- Laws: the first check that fails, and what a table without refusal gives every call on it
pub mod TableLaws
-- Laws: where records and fields lie in a table without refusal
pub mod RecordLaws
-- Laws: what a good descriptor says of its field, type by type
pub mod FormLaws
-- Laws: a name is good exactly as document 01's sentence says
pub mod NameLaws
-- Laws: two tables that agree in byte 0 and from byte 8 on, but for bytes 12 to 15 of a descriptor, have one form
pub mod SameForm
-- Laws: the checks look at the header, the length and the byte after the records alone
pub mod HeaderLaws
-- Laws: bytes 12 to 15 of a descriptor are not read
pub mod UnreadLaws
-- Laws: what holds of a date that the header can store
pub mod DateLaws
