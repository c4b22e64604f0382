-- What a reader must believe of one channel's side of the front, and which sides are in range.
pub mod Side
pub mod Sound
