-- The laws of lines that are read. Assumes nothing.
pub mod Reads
