-- What a reader must believe of the queue.
pub mod Queue
pub mod Sound
