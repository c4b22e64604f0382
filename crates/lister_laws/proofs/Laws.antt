-- The laws that the theorem goes by, a file a topic. Assumes nothing.
pub mod Going
pub mod Sides
