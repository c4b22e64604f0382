-- The theorems of the whole chip, and the laws that they go by.
pub mod Computing
pub mod Laws
pub mod Table
pub mod Sound
pub mod Reset
pub mod Quiet
pub mod Alone
pub mod Lists
pub mod Examples
pub mod Registers
pub mod Commands
pub mod Formats
pub mod Wrong
pub mod WrongLists
mod WrongNumbers
