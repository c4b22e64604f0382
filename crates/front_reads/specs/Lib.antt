-- What a reader must believe of the registers' reads.
pub mod Reads
