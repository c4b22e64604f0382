-- Document 01's words of the marks, and the wrong answers that are shut out. The laws of a character put together stand in the crate above.
pub mod Laws
mod ShutOut
