-- Which texts order 7 reads, whoever reads them.
pub mod Subset
