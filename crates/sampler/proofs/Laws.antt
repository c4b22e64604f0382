-- The laws of the sampler, a file a topic. Assumes nothing.
pub mod Heard
pub mod Ranges
pub mod Room
