-- What `inspect` makes of its arguments FIELD and INDEX.

-- Rules: what FIELD says, a number or a name, and whether INDEX names an NDX index
pub mod Arguments
-- Laws: FIELD by its length, its first byte and its digits
pub mod ArgumentLaws
-- Rules: the field that has a name, and the match's answer for it
pub mod Names
-- Laws: the loop over a table's fields, and the three cases of the match by name
pub mod NameLaws
