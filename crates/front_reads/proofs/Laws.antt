-- The laws of the reads. Assumes nothing.
pub mod Ranges
