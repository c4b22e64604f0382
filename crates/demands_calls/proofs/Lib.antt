-- The proof of what calls stand for, and wrong boards that are shut out.
pub mod Calls
mod ShutOut
