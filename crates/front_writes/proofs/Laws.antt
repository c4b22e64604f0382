-- The laws of the writes. Assumes nothing.
pub mod Ranges
