-- Laws about every call on a table.

-- Laws: bytes 12 to 15 of a descriptor are not read: two tables that differ there alone have the same answers of every call
pub mod UnreadLaws
