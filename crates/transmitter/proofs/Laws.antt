-- The laws of one transmitter, a file a topic. Assumes nothing.
pub mod Ranges
pub mod Free
