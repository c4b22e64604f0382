-- The proofs of the table of answers: the wrong answers that are shut out, and a file a function.
mod ShutOut
