-- What a reader must believe of text: the bytes of what is written out, numbers in decimal, what it
-- is to put text, and numbers that are read.
pub mod Bytes
pub mod Decimal
pub mod Puts
pub mod Numbers
