-- A list of calls given as bytes and run by code, and demand 3 of what the code leaves and answers.

-- Rules: a list of calls as bytes
pub mod Encoding
-- Laws: where a call stands in a list, and which call it is
pub mod EncodingLaws
-- Rules: what the code that runs a list leaves and answers, and demand 3 of it
pub mod Run
-- Laws: one call, one turn of the run, and its end; demand 3 of a run and of a batch
pub mod RunLaws
-- Laws: a list of calls is read back from its bytes
pub mod ReadBack
