-- What a call hands to C.

-- Rules: an answer, and what is held after it
pub mod Out
