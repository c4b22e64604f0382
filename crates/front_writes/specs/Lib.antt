-- What a reader must believe of the registers' writes.
pub mod Writes
