-- What meets the hypotheses of the demands, computed; and what is sent over a wire and read back.
pub mod Examples
pub mod MoreExamples
pub mod Modes
pub mod Wired
pub mod EveryFormat
pub mod EverySender
pub mod Looped
