-- The laws of a channel's clocks. Those of the dividers and the rates stand in the crate below. Assumes nothing.
pub mod Ranges
pub mod Passing
