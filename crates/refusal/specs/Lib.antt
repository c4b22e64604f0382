-- What a reader must believe of the refusals: the number of each.
pub mod Refusal
