-- The counter/timer of a chip reset, by document 01's numbers, and the wrong answers that are shut out. The laws of the counter/timer stand in the crate
-- above.
pub mod Laws
mod ShutOut
