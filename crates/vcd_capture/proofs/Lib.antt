-- The laws of a capture, captures computed, the wrong answers that are shut out, and a file a function.
pub mod Laws
pub mod Computing
pub mod Examples
mod ShutOut
