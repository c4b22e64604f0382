-- The sampling rule, stated of any way to put characters together from what is heard.
pub mod Sampling
pub mod Breaks
pub mod Confirms
pub mod Only
