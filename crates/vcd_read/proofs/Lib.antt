-- The laws of a dump that is read, texts computed, the wrong answers that are shut out, and a file a function.
pub mod Laws
pub mod Computing
pub mod Examples
mod ShutOut
