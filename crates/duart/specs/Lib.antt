-- What a reader must believe of the board: what of a poll's and of a run's answer is seen.
pub mod Duart
