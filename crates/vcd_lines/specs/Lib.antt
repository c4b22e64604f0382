-- What a reader must believe of the lines of a dump that are read, byte by byte.
pub mod Body
