-- What a reader must believe of the table of answers: its rows, and the first that applies.
pub mod Rows
pub mod Refusals
