-- What a reader must believe of the program `capture`: what its arguments ask, and the text that it prints.
pub mod Arguments
pub mod Lines
pub mod Said
