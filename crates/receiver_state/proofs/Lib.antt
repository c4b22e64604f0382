-- No laws stand here: those of a receiver stand in the crate above.
mod ShutOut
