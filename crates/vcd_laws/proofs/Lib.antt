-- The laws that a dump's text shows what it should go by, and the theorem.
pub mod Times
pub mod Waves
pub mod Lines
pub mod Values
pub mod Levels
pub mod Shows
mod ShutOut
