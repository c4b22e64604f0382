-- What the short way of a tick computes. Nothing here must be believed of the chip: the step's contract is `step_of`.
pub mod Passing
pub mod Fast
