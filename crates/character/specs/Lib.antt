-- What a reader must believe of a character.
pub mod Character
