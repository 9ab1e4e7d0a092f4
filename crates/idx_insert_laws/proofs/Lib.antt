-- Laws: an insertion keeps an index sound
pub mod InsertionSound
