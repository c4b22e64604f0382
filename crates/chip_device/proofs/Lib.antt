-- The proofs of the device: an unsound one, for the crates above, and a file a function.
pub mod Examples
