-- The proofs of a byte's bits: what each bit weighs, the wrong answers shut out, and a file a function.
pub mod Laws
mod ShutOut
