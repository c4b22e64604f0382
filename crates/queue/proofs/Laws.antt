-- The laws of the queue. Assumes nothing.
pub mod Queue
