-- The laws of a frame, a file a topic. Assumes nothing.
pub mod Levels
pub mod Register
