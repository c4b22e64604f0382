-- The laws of one byte's line. Assumes nothing.
pub mod Turns
