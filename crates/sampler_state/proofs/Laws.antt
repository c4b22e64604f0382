-- The laws of a character put together. Assumes nothing.
pub mod Assembly
