-- What a reader must believe of the counter/timer: what happens to it, under the name of src/; what is owed of it
-- (Counts, Modes, Sources); and its ranges.
pub mod Timer
pub mod Passing
pub mod Counts
pub mod Modes
pub mod Sources
pub mod Sound
