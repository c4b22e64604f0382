-- What a reader must believe of calls: which single events each stands for, and what was read.
pub mod Calls
