-- The laws that the sampling rule goes by, a file a topic. Assumes nothing.
pub mod Samples
pub mod Stopped
pub mod Characters
pub mod Told
pub mod ToldAfter
pub mod Every
