-- Rules: what a lookup answers
pub mod Answer
-- Rules: what a page says of a key
pub mod Visit
-- Rules: lookup of a key's first record, for features 0
pub mod FirstRecord
-- Rules: lookup's steps and its answer, on any bytes
pub mod Lookup
-- Steps: the way that a page gives a lookup for features 0
pub mod Ways
-- Laws: answers are not one another
pub mod AnswerLaws
-- Laws: a step of lookup, and the steps by the header's features
pub mod LookupLaws
-- Laws: the same of a lookup for features 0
pub mod WayLaws
-- Laws: what a good header and a key of its length give a search
pub mod SearchLaws
-- Laws: a found key is an equal one in a leaf, on any bytes
pub mod FoundLaws
-- Laws: the same for features 0
pub mod FirstFound
