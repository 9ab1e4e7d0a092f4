-- Laws: demand 3, after an accepted fresh and from any sound index on
pub mod BookLaws
-- Laws: one call on a buffer that holds a sound index is the theory's call on that index
pub mod CallLaws
-- Laws: pages are reused, and a key struck off and put in again is found
pub mod ReuseLaws
-- Laws: each answer of insertion, exactly when
pub mod InsertionAnswers
-- Laws: each answer of removal, exactly when
pub mod RemovalAnswers
