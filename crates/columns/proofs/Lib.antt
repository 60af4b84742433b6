-- The laws that the proofs of `columns`, and of the crates above it, use.
pub mod SumLaws
pub mod ColumnLaws
pub mod Opened
