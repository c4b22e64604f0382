-- What a reader must believe of the front in a tick or a pin event.
pub mod Clocking
