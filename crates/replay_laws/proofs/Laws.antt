-- The laws of a line's words, a file a topic. Assumes nothing.
pub mod Names
pub mod Numbers
pub mod Words
