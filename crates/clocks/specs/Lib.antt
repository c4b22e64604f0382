-- What a reader must believe of the clocks: what a channel's do, under the name of src/; what is owed of them and of
-- the dividers (Pulses); and their ranges.
pub mod Channel
pub mod Pulses
pub mod Sound
