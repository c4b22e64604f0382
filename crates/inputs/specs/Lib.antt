-- What a reader must believe of the input pins.
pub mod Inputs
