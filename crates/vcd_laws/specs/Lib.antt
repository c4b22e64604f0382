-- What is owed of a dump. It takes the dump it speaks of, so that it can be shown false of a wrong one.
pub mod Shows
