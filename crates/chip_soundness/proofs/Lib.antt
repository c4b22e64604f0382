-- The proofs of soundness: the edge of each range, the wrong answers that are shut out, and a file a function.
pub mod Edges
mod ShutOut
