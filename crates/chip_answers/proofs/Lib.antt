-- The proofs of the answers: the wrong ones that are shut out, and a file a function.
mod ShutOut
