-- The laws of the front. Assumes nothing.
pub mod Ranges
