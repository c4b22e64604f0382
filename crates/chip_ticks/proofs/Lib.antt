-- The proofs of many ticks in a row: their laws, document 01's own number for a run, and the wrong answers that are shut out.
pub mod Laws
mod Examples
mod ShutOut
