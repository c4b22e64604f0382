-- The proofs of one byte's line: the laws, the wrong answers that are shut out, and a file a function.
pub mod Laws
mod ShutOut
