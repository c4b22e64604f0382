-- What a reader must believe of a dump: `Waves` has the values of each time, `Dump` the refusals, the answer and the
-- space. `Wave` says how the code goes.
pub mod Waves
pub mod Wave
pub mod Dump
