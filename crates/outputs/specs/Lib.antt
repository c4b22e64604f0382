-- What a reader must believe of the output pins.
pub mod Outputs
