-- What a reader must believe of a channel's modes.
pub mod Modes
