-- What a reader must believe of the frame lister's lines.
pub mod Line
