-- The laws of a dump that is read, a file a topic. Assumes nothing.
pub mod Starts
pub mod Wires
pub mod Named
pub mod Checking
pub mod Table
pub mod Header
pub mod Checks
