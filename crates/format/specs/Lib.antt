-- What a reader must believe of a format: a file a topic, under the names of src/, over two that all of them use,
-- `Pick` and `Digits`.
pub mod Pick
pub mod Digits
pub mod Format
pub mod Parity
pub mod Stop
