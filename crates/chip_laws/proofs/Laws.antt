-- The laws that the theorems go by, a file a topic. Assumes nothing.
pub mod Lists
pub mod Ranges
