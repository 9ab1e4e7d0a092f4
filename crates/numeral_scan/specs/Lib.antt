-- The reader of numeric text, one character at a time.

-- Steps: the reader's states, character by character
pub mod Scan
-- Laws: the reader's states end in what the text means
pub mod ScanLaws
