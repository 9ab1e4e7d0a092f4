-- Laws: demand 3 for any state that is read as an index
pub mod Theorem
