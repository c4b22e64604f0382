-- The laws of one channel's side. Assumes nothing.
pub mod Ranges
