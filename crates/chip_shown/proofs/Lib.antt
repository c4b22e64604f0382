-- The proofs of the status register and of ISR: the wrong answers shut out, and a file a function.
mod ShutOut
