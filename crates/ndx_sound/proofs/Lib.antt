-- Laws: what the walk asks, level by level
pub mod AcceptLaws
-- Laws: the test accepts exactly the sound indexes
pub mod Accepted
-- Laws: every buffer has one answer that meets `Audited`
pub mod AnswerLaws
-- Laws: what a walk that is good has met
pub mod WalkLaws
