-- The laws of the whole chip, a file a topic. Assumes nothing.
pub mod Table
