-- The laws of a side in a tick or a pin event. Assumes nothing.
pub mod Hears
pub mod Ranges
