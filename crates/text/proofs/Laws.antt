-- The laws of text, a file a topic. Assumes nothing.
pub mod Chunks
pub mod Decimal
pub mod Digits
pub mod Pages
pub mod Puts
