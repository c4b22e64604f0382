-- What a reader must believe of what an event makes of the front.
pub mod FrontEvents
