-- The FPT memo file.

-- Rules: what the text of an M field says, where a memo's text stands in the file, and refusals 21 to 23
pub mod Memo
-- Laws: what a memo number's text says from one character on, and the numbers that it can give
pub mod NumberLaws
-- Laws: each memo number has one text, only ten blanks are empty, and what an answer's number says
pub mod NumberText
-- Laws: a memo's place test by test, a text lies in the file, and what an answer's number says
pub mod MemoLaws
