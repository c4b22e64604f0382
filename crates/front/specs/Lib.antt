-- What a reader must believe of the front, and which fronts are in range.
pub mod Front
pub mod Sound
