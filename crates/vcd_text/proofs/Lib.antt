-- The laws of a value change dump's text, examples in order 6's own numbers, and the wrong text that is shut out.
pub mod Laws
pub mod Examples
mod ShutOut
