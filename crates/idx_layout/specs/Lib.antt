-- The header and pages as they are written, in the order in which the parts rest on one another.

-- Rules: the header and pages as bytes
pub mod Layout
-- Steps: what the functions ask of their arguments
pub mod Given
-- Laws: entries as bytes and back
pub mod EncodeLaws
-- Laws: the stores of the functions are the rule's
pub mod WriteLaws
