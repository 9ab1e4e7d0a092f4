-- What the calls on a whole table hand to C. Rules are what a reader must believe; laws are proved.

-- Rules: the answer's number and the shape of a table
pub mod Answers
-- Laws: what the proofs cite of these answers; out-parameters keep what they held
pub mod AnswerLaws
-- Rules: the calls over lent structs, the field list and the two walks
pub mod Lent
-- Laws: the parts of the calls over lent structs; the field list is the answers by value
pub mod LentLaws
-- Rules: what the calls that write a table hand to C
pub mod Writing
-- Laws: what the proofs of these calls cite; out-parameters keep what they held
pub mod WritingLaws
