-- What a reader must believe of a script: `Script` says what a line means by its words; `Reading` and `Lines` say the
-- same byte by byte, as the code goes, and `Agrees` that the two are one, which the crate `replay_laws` proves;
-- `Place` counts the lines.
pub mod Bytes
pub mod Script
pub mod Reading
pub mod Lines
pub mod Place
pub mod Agrees
