-- The proofs of the board: the wrong answers that are shut out, and a file a function.
mod ShutOut
