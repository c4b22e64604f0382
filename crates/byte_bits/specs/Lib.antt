-- What a reader must believe of a byte's bits.
pub mod Bytes
