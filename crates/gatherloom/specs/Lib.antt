-- The C interface. Rules are what a reader must believe; laws are proved.

-- Rules: the number of the interface
pub mod Interface
-- Laws: an answer's number tells its case
pub mod ToldApart
