-- Laws: what std says of bytes and of parts of a slice, in the rules' words
pub mod Words
