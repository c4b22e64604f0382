-- The proofs of the whole chip: the laws that its step goes by, and the wrong answers that are shut out.
pub mod Laws
mod ShutOut
