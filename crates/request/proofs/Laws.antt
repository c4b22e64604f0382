-- The laws of the frame request. Assumes nothing.
pub mod Request
