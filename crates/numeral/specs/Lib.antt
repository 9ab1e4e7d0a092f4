-- The text of an N field: its format, and the answers of reading and writing it.

-- Rules: the widths and decimal counts of numeric fields, and the characters of their texts
pub mod Format
-- Rules: what a numeric text means
pub mod Reading
-- Rules: the one written text of a value, and its accepted texts
pub mod Writing
-- Laws: the parts of a numeric text; its digits and their number; when 6 and 16 are given
pub mod ReadingLaws
-- Laws: the whole part and the fraction of a number as it is written
pub mod DigitLaws
-- Laws: the writer's stores leave the written text, and its answers come in their order
pub mod WritingLaws
-- Laws: the grammar of numeric text: a good text is a text of its value, and each text of a value is good
pub mod GrammarLaws
-- Laws: demand 2
pub mod TextLaws
