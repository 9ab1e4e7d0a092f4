-- Laws: the deletion byte and the fields tile a record, by the entries' own offsets and lengths
pub mod TilingLaws
