-- The proofs of the refusals: no two rows have one number, and the wrong answers that are shut out.
pub mod Laws
mod ShutOut
