-- Lookup on sound indexes, NDX and of either format.

-- Laws: what lookup finds in the list of the leaves' pairs of a sound NDX index, and the number of pages visited
pub mod FoundLaws
-- Laws: lookup in an index of either format against the same sorted list
pub mod EitherLaws
-- Laws: a small NDX index is sound, and isn't if a byte is changed; lookups in it: computed statements
pub mod Example
