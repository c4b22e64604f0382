-- What a reader must believe of what a receiver shows.
pub mod Status
