-- What is owed of a capture. Each takes the reader it speaks of, so that it can be shown false of a wrong one: `Captures` is
-- order 7 of every text, `Enough` the length that no log of it passes, `ReadsBack` order 7 of order 6's dumps.
pub mod Captures
pub mod Enough
pub mod ReadsBack
