-- No laws stand here: those of a transmitter stand in the crate above.
mod ShutOut
