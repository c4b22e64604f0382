-- What a reader must believe of a feed: the range of what it carries.
pub mod Ranges
