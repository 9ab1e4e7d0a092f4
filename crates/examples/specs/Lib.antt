-- Document 01's "Examples to hold" that are marked P.

-- Rules: the index of source document 000, byte by byte
pub mod Tree000
-- Rules: the indexes of the examples with keys of 100 bytes, made by fresh and insertion
pub mod Tree100
-- Rules: the examples, each call beside the paper's answer
pub mod Examples
-- Laws: the single statement that all of them hold, and that the tree in 000 is sound
pub mod ExampleLaws
-- Laws: the audit's test refuses the tree in 000 if one of five bytes is changed
pub mod Damage000
