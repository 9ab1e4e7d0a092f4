-- Bytes, byte strings and the characters of a text. Rules are what a reader must believe; steps are cited inside the crate alone; laws are proved.

-- Rules: numbers at an offset, least or most significant byte first, and the bytes of a number
pub mod Bytes
-- Rules: a store into a buffer, and a part of a buffer
pub mod Store
-- Rules: the order of byte strings
pub mod Order
-- Rules: blanks on the left of a text, digits, the number that digits stand for, and the digits of a number
pub mod Text
-- Steps: bytes as one number with the first byte highest, and the order by it
pub mod Words
-- Laws: of stores and parts
pub mod StoreLaws
-- Laws: a stored number is read back, and depends on its own bytes alone
pub mod NumberLaws
-- Laws: the order is total, antisymmetric and transitive
pub mod OrderLaws
-- Laws: any count of bytes as one number decides the order (K2)
pub mod WordLaws
-- Laws: of blanks on the left, and of texts whose characters all pass a test
pub mod TextLaws
-- Laws: of digits and the numbers that they stand for
pub mod DigitLaws
