-- The laws of one receiver, a file a topic. Assumes nothing.
pub mod Ledger
pub mod Ranges
pub mod Reached
pub mod Waiting
