-- The laws of the front in a tick or a pin event. Assumes nothing.
pub mod Ranges
