-- The laws of the text, a file a topic. Assumes nothing.
pub mod Changes
pub mod Words
