-- What a reader must believe of the whole chip: one event, one answer.
pub mod Chip
