-- What a reader must believe of the events: the commands that the chip does not take.
pub mod Command
