-- The path of a key to its leaf, in the order in which the parts rest on one another.

-- Rules: the path of a key, the new pages and levels that an insertion needs, and refusal 30
pub mod Room
-- Rules: whether an index has a pair
pub mod Presence
-- Laws: the cases of the path to a key
pub mod RoomLaws
-- Laws: the cases of presence
pub mod PresenceLaws
