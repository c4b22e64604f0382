-- The laws that the crates above cite.
pub mod Laws
mod ShutOut
