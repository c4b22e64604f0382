-- What a reader must believe of a side in a tick or a pin event.
pub mod Clocking
