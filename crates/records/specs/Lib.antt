-- What a reader must believe of the records: which event each is, and what of an answer is seen.
pub mod Records
