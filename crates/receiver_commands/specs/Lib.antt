-- What a reader must believe of what a command does to a receiver.
pub mod Commands
