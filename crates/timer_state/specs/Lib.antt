-- What a reader must believe of the counter/timer as it counts.
pub mod Counting
