-- What a reader must believe of a capture.
pub mod Logs
pub mod Ear
pub mod Hops
pub mod Capture
pub mod Waves
