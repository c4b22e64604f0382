-- The laws that the crates above cite, and the theorems.
pub mod Computing
pub mod Laws
pub mod Delivery
pub mod Examples
pub mod ReadBack
pub mod Wrong
mod ShutOut
