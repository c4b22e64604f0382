-- What a reader must believe of many ticks in a row.
pub mod Ticks
pub mod Run
