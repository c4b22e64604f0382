-- The laws of the commands. Assumes nothing.
pub mod Numbers
pub mod Actions
pub mod Ranges
