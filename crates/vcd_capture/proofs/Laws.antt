-- The laws of a capture, a file a topic. Assumes nothing.
pub mod Hops
pub mod Hearing
pub mod Capture
pub mod Waves
