-- The laws of a channel's modes. Assumes nothing.
pub mod Ranges
