-- What a reader must believe of a command.
pub mod Commands
