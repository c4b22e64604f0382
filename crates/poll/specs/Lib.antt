-- What a reader must believe of a poll: the single step, and what a list of events does.
pub mod Step
pub mod Poll
