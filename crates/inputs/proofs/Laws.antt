-- The laws of the input pins. Assumes nothing.
pub mod Edges
pub mod Ranges
