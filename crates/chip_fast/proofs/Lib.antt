-- The proofs of the short ways, and the wrong answers that are shut out.
pub mod Laws
mod ShutOut
