-- What the clauses say.
pub mod Input
