-- Rules: what the contracts of the strict reading cite
pub mod Words
-- Laws: where a word stands
pub mod WordLaws
