-- What a reader must believe of the sampler: what a pulse does to it; what it sees and says, run alone; and the ranges
-- of its fields.
pub mod Sampler
pub mod Lines
pub mod Sound
