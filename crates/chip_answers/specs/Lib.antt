-- What a reader must believe of the lines and of the data byte.
pub mod Answers
