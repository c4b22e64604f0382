-- What is owed of the whole chip, a statement a file. Each takes the step it speaks of, so that it can be shown false
-- of a wrong one.
pub mod Table
pub mod Sound
pub mod Reset
pub mod Alone
pub mod Quiet
pub mod Lists
