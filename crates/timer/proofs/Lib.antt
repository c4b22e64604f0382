-- The laws that the crates above cite, and the theorems.
pub mod Laws
pub mod Counts
pub mod Modes
pub mod Sources
pub mod Wrong
pub mod WrongModes
pub mod Examples
mod ShutOut
