-- The laws of a dump, a file a topic. Assumes nothing.
pub mod Records
pub mod Values
pub mod Rest
pub mod Stands
pub mod Answers
