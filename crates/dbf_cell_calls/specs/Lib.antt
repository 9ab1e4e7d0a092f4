-- What the calls that read a field, and those on numeric text, hand to C. Rules are what a reader must believe; laws are proved.

-- Rules: the answer's number, and what its out-parameters or its lent buffer hold after it
pub mod Answers
-- Laws: what the proofs cite of these answers; out-parameters keep what they held
pub mod AnswerLaws
