-- The proofs of a poll: the loop on lists, the two steps, what the loop is asked, what a reader is told, and a file a
-- function.
pub mod Runs
pub mod Alike
pub mod Steps
pub mod Asked
pub mod Told
mod ShutOut
mod Examples
