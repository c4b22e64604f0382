-- The proofs of a script's reading: the wrong answers that are shut out, and a file a function.
mod ShutOut
