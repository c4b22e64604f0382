-- The proofs of the output pins: what OPCR may hold, the wrong answers shut out, and a file a function.
pub mod Laws
mod ShutOut
