-- What a reader must believe of the sampler outside a character.
pub mod Hunting
