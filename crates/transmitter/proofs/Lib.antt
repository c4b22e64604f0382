-- The laws that the crates above cite, and the theorems.
pub mod Computing
pub mod Laws
pub mod Frames
pub mod Breaks
pub mod Obeys
pub mod Wrong
pub mod WrongBreaks
pub mod Examples
mod ShutOut
