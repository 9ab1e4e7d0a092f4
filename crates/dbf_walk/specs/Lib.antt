-- The walk over a table's records: every record with a mark, or the undeleted ones alone.

-- Rules: one step of either walk
pub mod Walk
-- Laws: the loop of a step meets the rule
pub mod WalkLaws
-- Laws: either walk to done, and how the two agree
pub mod RunLaws
