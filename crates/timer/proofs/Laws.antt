-- The laws of the counter/timer. Assumes nothing.
pub mod Ranges
pub mod Passing
