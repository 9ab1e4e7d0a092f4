-- Demand 3: one theorem about a whole list of calls, over the rules that the contracts of fresh, insertion, lookup and removal cite.

-- Rules: calls on a buffer, the book beside them, and what it is for a list of calls to be kept by the book
pub mod Book
-- Laws: what the answers of insertion and removal are said by
pub mod CaseLaws
-- Laws: each answer of insertion, exactly when
pub mod InsertionAnswers
-- Laws: each answer of removal, exactly when
pub mod RemovalAnswers
