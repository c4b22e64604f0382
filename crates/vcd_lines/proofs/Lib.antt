-- The laws of lines that are read, the wrong answers that are shut out, and a file a function.
pub mod Laws
mod ShutOut
