-- The laws of the short ways: a tick within the room is a tick, many are as many, and the answers are the step's. Assumes nothing.
pub mod Passing
pub mod Ticked
pub mod Many
