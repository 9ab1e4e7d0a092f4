-- Lookup on a sound index.

-- Laws: what lookup finds in the list of the leaves' pairs, and the number of pages visited
pub mod FoundLaws
-- Laws: for features 0 lookup gives the key's first record in that list, and the number of pages visited
pub mod FirstLaws
-- Laws: lookup by the header's features is the theory's
pub mod HeldLaws
-- Laws: all records of a key, each once, in order
pub mod RecordLaws
