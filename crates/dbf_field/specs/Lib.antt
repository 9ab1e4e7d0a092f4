-- One field of a table, and a field of a record.

-- Rules: a field's entry, where a field of a record lies, and refusals 11 and 12
pub mod Field
-- Laws: what the answers about a field say, and a field's bytes lie in the table
pub mod FieldLaws
