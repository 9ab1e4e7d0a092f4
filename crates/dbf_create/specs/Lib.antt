-- An empty table, laid out from a list of fields.

-- Rules: the bytes of the table, and the refusals in their order
pub mod Laying
-- Laws: the checks of a table that is being laid out, and the stores that write it
pub mod LayingLaws
