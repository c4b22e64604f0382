-- The laws of text, the wrong text that is shut out, and a file a function.
pub mod Laws
mod ShutOut
