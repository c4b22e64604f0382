-- What a reader must believe of the text that is printed.
pub mod Lines
