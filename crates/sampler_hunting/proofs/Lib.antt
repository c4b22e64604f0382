-- No laws stand here: those of the sampler stand in the crate above.
mod ShutOut
